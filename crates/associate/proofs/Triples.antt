-- The paths of two compositions are the triples, in either bracket. Assumes nothing.
use mathlib.Core.Path.{◌≡◌, sym, ap, ◌∙◌}
use mathlib.Core.Bool.{true}
use mathlib.Core.List.{List}
use Prim.Native.Nat.{ℕ}
use Rattle.transducer.specs.Format.{Transducer}
use Rattle.transducer.specs.Path.{accepts, read_by, written_by, path_cost}
use Rattle.transducer.specs.Each.{path_passed, plain}
use Rattle.transducer.specs.Weight.{Weight, plus}
use Rattle.transducer.proofs.FitPaths.{read_path_fits, path_fits_plain}
use Rattle.transducer.proofs.Weights.{plus_assoc}
use Rattle.compose.specs.Claim.{met_at, OneToOne}
use Rattle.compose.specs.Claim.{StandsFor as Stands-for-pair}
use Rattle.compose.proofs.Plain.{pair_reads, stands_writes}
use Rattle.claim.specs.Kind.{StandsFor, PathsAre}
use Rattle.associate.specs.Associate.{ThreePaths, Triple, Triples, to_triple_left, to_triple_right}

same_three : (x y : ThreePaths) → x.left ≡ y.left → x.middle ≡ y.middle → x.right ≡ y.right → x ≡ y
same_three x y l m r = λ i. record { left = l i; middle = m i; right = r i }

-- The first two composed first: u is their composition, z the result. The second has no 65,535.
module _ (a b c u z : Transducer) (inner outer : List ℕ) (none : plain b ≡ true) (one : OneToOne a b u inner) (two : OneToOne u c z outer) where
  left_leads : (p : List ℕ) → accepts z p ≡ true → StandsFor (Triples a b c) z p (to_triple_left inner outer p)
  unfolding to_triple_left
  left_leads p h =
      let q : List ℕ = met_at outer 0 p in
      let s : Stands-for-pair u c z p q (met_at outer 1 p) = two.leads p h in
      let r : Stands-for-pair a b u q (met_at inner 0 q) (met_at inner 1 q) = one.leads q s.pair.left_accepts in
      let same : written_by u q ≡ written_by b (met_at inner 1 q) = stands_writes a b none (met_at inner 0 q) (met_at inner 1 q) u q r in
      record {
        is =
            record {
              left_accepts = r.pair.left_accepts;
              middle_accepts = r.pair.right_accepts;
              right_accepts = s.pair.right_accepts;
              left_meets = r.pair.meets;
              right_meets = rw same at s.pair.meets;
            };
        reads = s.reads ∙ r.reads;
        writes = s.writes ∙ ap (λ (cs : List ℕ). path_passed c cs (met_at outer 1 p)) same;
        costs =
            s.costs ∙ ap (λ (n : Weight). plus n (path_cost c (met_at outer 1 p))) r.costs
            ∙ plus_assoc (path_cost a (met_at inner 0 q)) (path_cost b (met_at inner 1 q)) (path_cost c (met_at outer 1 p));
      }

  left_never_two : (p q : List ℕ) → accepts z p ≡ true → accepts z q ≡ true → to_triple_left inner outer p ≡ to_triple_left inner outer q → p ≡ q
  unfolding to_triple_left
  left_never_two p q h k e =
      two.never_two p q h k
      (one.never_two (met_at outer 0 p) (met_at outer 0 q) (two.leads p h).pair.left_accepts (two.leads q k).pair.left_accepts
      (ap (λ (x : ThreePaths). x.left) e) (ap (λ (x : ThreePaths). x.middle) e))
      (ap (λ (x : ThreePaths). x.right) e)

  left_every : (x : ThreePaths) → Triple a b c x → (p : List ℕ) × (accepts z p ≡ true) × (to_triple_left inner outer p ≡ x)
  unfolding to_triple_left
  left_every x t =
      let q =
      one.every x.left x.middle (record { left_accepts = t.left_accepts; right_accepts = t.middle_accepts; meets = t.left_meets }) in
      let s : Stands-for-pair a b u q.0 x.left x.middle = rw (q.2, q.3) at (one.leads q.0 q.1) in
      let same : written_by u q.0 ≡ written_by b x.middle = stands_writes a b none x.left x.middle u q.0 s in
      let p =
      two.every q.0 x.right (record { left_accepts = q.1; right_accepts = t.right_accepts; meets = rw same t.right_meets }) in
      (p.0, p.1, same_three (to_triple_left inner outer p.0) x (ap (met_at inner 0) p.2 ∙ q.2) (ap (met_at inner 1) p.2 ∙ q.3) p.3)

  pub left_paths : PathsAre (Triples a b c) z (to_triple_left inner outer)
  left_paths = record { leads = left_leads; never_two = left_never_two; every = left_every }

-- The last two composed first: v is their composition, z the result. Neither the second nor v has 65,535.
module _ (a b c v z : Transducer) (inner outer : List ℕ) (none : plain b ≡ true) (none_v : plain v ≡ true) (one : OneToOne b c v inner)
    (two : OneToOne a v z outer) where
  right_leads : (p : List ℕ) → accepts z p ≡ true → StandsFor (Triples a b c) z p (to_triple_right inner outer p)
  unfolding to_triple_right
  right_leads p h =
      let q : List ℕ = met_at outer 1 p in
      let s : Stands-for-pair a v z p (met_at outer 0 p) q = two.leads p h in
      let r : Stands-for-pair b c v q (met_at inner 0 q) (met_at inner 1 q) = one.leads q s.pair.right_accepts in
      let meets : written_by a (met_at outer 0 p) ≡ read_by b (met_at inner 0 q) = pair_reads a v none_v (met_at outer 0 p) q s.pair ∙ r.reads in
      record {
        is =
            record {
              left_accepts = s.pair.left_accepts;
              middle_accepts = r.pair.left_accepts;
              right_accepts = r.pair.right_accepts;
              left_meets = rw meets (read_path_fits b (met_at inner 0 q));
              right_meets = r.pair.meets;
            };
        reads = s.reads;
        writes = stands_writes a v none_v (met_at outer 0 p) q z p s ∙ r.writes;
        costs = s.costs ∙ ap (plus (path_cost a (met_at outer 0 p))) r.costs;
      }

  right_never_two : (p q : List ℕ) → accepts z p ≡ true → accepts z q ≡ true → to_triple_right inner outer p ≡ to_triple_right inner outer q → p ≡ q
  unfolding to_triple_right
  right_never_two p q h k e =
      two.never_two p q h k (ap (λ (x : ThreePaths). x.left) e)
      (one.never_two (met_at outer 1 p) (met_at outer 1 q) (two.leads p h).pair.right_accepts (two.leads q k).pair.right_accepts
      (ap (λ (x : ThreePaths). x.middle) e) (ap (λ (x : ThreePaths). x.right) e))

  right_every : (x : ThreePaths) → Triple a b c x → (p : List ℕ) × (accepts z p ≡ true) × (to_triple_right inner outer p ≡ x)
  unfolding to_triple_right
  right_every x t =
      let q =
      one.every x.middle x.right (record { left_accepts = t.middle_accepts; right_accepts = t.right_accepts; meets = t.right_meets }) in
      let s : Stands-for-pair b c v q.0 x.middle x.right = rw (q.2, q.3) at (one.leads q.0 q.1) in
      let meets : written_by a x.left ≡ read_by v q.0 =
      sym (path_fits_plain b none (written_by a x.left) x.middle t.left_meets) ∙ sym s.reads in
      let p =
      two.every x.left q.0
      (record { left_accepts = t.left_accepts; right_accepts = q.1; meets = rw meets (read_path_fits v q.0) }) in
      (p.0, p.1, same_three (to_triple_right inner outer p.0) x p.2 (ap (met_at inner 0) p.3 ∙ q.2) (ap (met_at inner 1) p.3 ∙ q.3))

  pub right_paths : PathsAre (Triples a b c) z (to_triple_right inner outer)
  right_paths = record { leads = right_leads; never_two = right_never_two; every = right_every }
