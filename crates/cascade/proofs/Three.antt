-- What is claimed of three transducers holds of the cascade's call and a composition behind it, and it agrees with either bracket. Assumes nothing.
use mathlib.Core.Path.{◌≡◌, sym, ap, ◌∙◌}
use mathlib.Core.Bool.{true}
use mathlib.Core.List.{List}
use Prim.Native.Nat.{ℕ}
use Rattle.transducer.specs.Format.{Transducer, Good, refusal, decode}
use Rattle.transducer.specs.Path.{accepts, written_by, path_cost}
use Rattle.transducer.specs.Each.{path_passed, plain}
use Rattle.transducer.specs.Weight.{Weight, plus}
use Rattle.transducer.proofs.FitPaths.{read_path_fits, path_fits_plain, path_passed_plain}
use Rattle.transducer.proofs.Fits.{named_plain}
use Rattle.transducer.proofs.Good.{good_tests}
use Rattle.transducer.proofs.RoundTrip.{accepted_good}
use Rattle.transducer.proofs.Runs.{good_within}
use Rattle.transducer.proofs.Weights.{plus_assoc}
use Rattle.trim.specs.Trim.{through}
use Rattle.compose.specs.Claim.{met_at, TwoPaths, OneToOne}
use Rattle.compose.specs.Claim.{StandsFor as Composed-stands}
use Rattle.claim.specs.Kind.{StandsFor, PathsAre}
use Rattle.claim.proofs.Chain.{lattice_paths}
use Rattle.claim.proofs.Listing.{lists}
use Rattle.compose.specs.Composition.{composed_bytes}
use Rattle.compose.proofs.Called.{composable, composition_good, composition_plain, composition_accepted, composition_pairs}
use Rattle.lattice.specs.Application.{Application, lattice_bytes}
use Rattle.lattice.proofs.Called.{applied_good, applied_accepted, applied_reads}
use Rattle.claim.specs.Agree.{Holds}
use Rattle.associate.specs.Associate.{ThreePaths, TripleOf, Triples, TriplesOf, to_triple_left}
use Rattle.associate.specs.Associate.{Brackets, left_result, right_result, left_leads, right_leads}
use Rattle.associate.proofs.Associated.{associates}
use Rattle.claim.proofs.Agreeing.{holds, agree}
use Rattle.cascade.specs.Pairs.{FittingPairs}
use Rattle.cascade.specs.Cascade.{cascaded_bytes}
use Rattle.cascade.specs.Three.{left_output, middle_output, FittingTriple, FittingTriples, ThreeCascaded, three_bytes, three_leads}
use Rattle.cascade.specs.Three.{ThreeClaim, ThreeAgree}
use Rattle.cascade.proofs.Pairs.{same_two}
use Rattle.cascade.proofs.Cascaded.{by_origins, cascaded_good, cascaded_paths}

same_three : (x y : ThreePaths) → x.left ≡ y.left → x.middle ≡ y.middle → x.right ≡ y.right → x ≡ y
same_three x y l m r = λ i. record { left = l i; middle = m i; right = r i }

-- u is a transducer whose paths are pairs, z its composition with the third one.
module _ (xs ys zs cs : List ℕ) (u z : Transducer) (inner outer : List ℕ) (are : PathsAre (FittingPairs xs ys cs) u (by_origins inner))
    (two : OneToOne u (decode zs) z outer) where
  leads : (p : List ℕ) → accepts z p ≡ true → StandsFor (FittingTriples xs ys zs cs) z p (to_triple_left inner outer p)
  unfolding to_triple_left
  leads p h =
      let q : List ℕ = met_at outer 0 p in
      let s : Composed-stands u (decode zs) z p q (met_at outer 1 p) = two.leads p h in
      let r : StandsFor (FittingPairs xs ys cs) u q (by_origins inner q) = are.leads q s.pair.left_accepts in
      record {
        is =
            record {
              left_accepts = r.is.left_accepts;
              left_fits = r.is.left_fits;
              middle_accepts = r.is.right_accepts;
              left_meets = r.is.meets;
              right_accepts = s.pair.right_accepts;
              right_meets = rw r.writes at s.pair.meets;
            };
        reads = s.reads ∙ r.reads;
        writes = s.writes ∙ ap (λ (o : List ℕ). path_passed (decode zs) o (met_at outer 1 p)) r.writes;
        costs =
            s.costs ∙ ap (λ (n : Weight). plus n (path_cost (decode zs) (met_at outer 1 p))) r.costs
            ∙ plus_assoc (path_cost (decode xs) (met_at inner 0 q)) (path_cost (decode ys) (met_at inner 1 q)) (path_cost (decode zs) (met_at outer 1 p));
      }

  never_two : (p q : List ℕ) → accepts z p ≡ true → accepts z q ≡ true → to_triple_left inner outer p ≡ to_triple_left inner outer q → p ≡ q
  unfolding to_triple_left
  never_two p q h k e =
      two.never_two p q h k
      (are.never_two (met_at outer 0 p) (met_at outer 0 q) (two.leads p h).pair.left_accepts (two.leads q k).pair.left_accepts
      (same_two (by_origins inner (met_at outer 0 p)) (by_origins inner (met_at outer 0 q)) (ap (λ (x : ThreePaths). x.left) e)
      (ap (λ (x : ThreePaths). x.middle) e)))
      (ap (λ (x : ThreePaths). x.right) e)

  every : (x : ThreePaths) → FittingTriple xs ys zs cs x → (p : List ℕ) × (accepts z p ≡ true) × (to_triple_left inner outer p ≡ x)
  unfolding to_triple_left
  every x t =
      let both : TwoPaths = record { left = x.left; right = x.middle } in
      let q =
      are.every both
      (record { left_accepts = t.left_accepts; left_fits = t.left_fits; right_accepts = t.middle_accepts; meets = t.left_meets }) in
      let s : StandsFor (FittingPairs xs ys cs) u q.0 both = rw q.2 at (are.leads q.0 q.1) in
      let p =
      two.every q.0 x.right (record { left_accepts = q.1; right_accepts = t.right_accepts; meets = rw s.writes t.right_meets }) in (
        p.0,
        p.1,
        same_three (to_triple_left inner outer p.0) x (ap (met_at inner 0) p.2 ∙ ap (λ (y : TwoPaths). y.left) q.2)
            (ap (met_at inner 1) p.2 ∙ ap (λ (y : TwoPaths). y.right) q.2) p.3,
      )

  triple_paths : PathsAre (FittingTriples xs ys zs cs) z (to_triple_left inner outer)
  triple_paths = record { leads = leads; never_two = never_two; every = every }

-- If neither of the first two has an arc for any symbol, the triples are those of `associate`.
module _ (xs ys zs cs : List ℕ) (none_xs : plain (decode xs) ≡ true) (none_ys : plain (decode ys) ≡ true) where
  left_writes : (x : ThreePaths) → left_output xs cs x ≡ written_by (decode xs) x.left
  left_writes x = path_passed_plain (decode xs) none_xs cs x.left

  middle_writes : (x : ThreePaths) → middle_output xs ys cs x ≡ written_by (decode ys) x.middle
  middle_writes x = path_passed_plain (decode ys) none_ys (left_output xs cs x) x.middle

  there : (x : ThreePaths) → FittingTriple xs ys zs cs x → TripleOf (decode xs) (decode ys) (decode zs) cs x
  there x t =
      record {
        triple =
            record {
              left_accepts = t.left_accepts;
              middle_accepts = t.middle_accepts;
              right_accepts = t.right_accepts;
              left_meets = rw (left_writes x) at t.left_meets;
              right_meets = rw (middle_writes x) at t.right_meets;
            };
        reads = path_fits_plain (decode xs) none_xs cs x.left t.left_fits;
      }

  back : (x : ThreePaths) → TripleOf (decode xs) (decode ys) (decode zs) cs x → FittingTriple xs ys zs cs x
  back x t =
      record {
        left_accepts = t.triple.left_accepts;
        left_fits = rw t.reads at (read_path_fits (decode xs) x.left);
        middle_accepts = t.triple.middle_accepts;
        left_meets = rw (left_writes x) t.triple.left_meets;
        right_accepts = t.triple.right_accepts;
        right_meets = rw (middle_writes x) t.triple.right_meets;
      }

  paths_triples : (z : Transducer) (to : List ℕ → ThreePaths) → PathsAre (FittingTriples xs ys zs cs) z to
      → PathsAre (TriplesOf (decode xs) (decode ys) (decode zs) cs) z to
  paths_triples z to are =
      record {
        leads = λ p h.
            let s : StandsFor (FittingTriples xs ys zs cs) z p (to p) = are.leads p h in
            let t : TripleOf (decode xs) (decode ys) (decode zs) cs (to p) = there (to p) s.is in
            record {
              is = t;
              reads = s.reads ∙ sym t.reads;
              writes = s.writes ∙ ap (λ (o : List ℕ). path_passed (decode zs) o (to p).right) (middle_writes (to p));
              costs = s.costs;
            };
        never_two = are.never_two;
        every = λ x t. are.every x (back x t);
      }

-- The claim

module _ {left middle right string : List ℕ} (c : ThreeCascaded left middle right string) where
  good_inner : Good (decode (cascaded_bytes c.cascading))
  good_inner = cascaded_good c.cascading

  good_right : Good (decode right)
  good_right = accepted_good right c.right_bytes (composable c.composing).right_good

  good_three : Good (decode (three_bytes c))
  good_three = composition_good good_inner good_right c.composing

  accepted : refusal (three_bytes c) ≡ 0
  accepted = composition_accepted good_inner good_right c.composing

  paths : PathsAre (FittingTriples left middle right string) (decode (three_bytes c)) (three_leads c)
  paths =
      triple_paths left middle right string (decode (cascaded_bytes c.cascading)) (decode (three_bytes c)) c.cascading.origins_left
      c.composing.origins_left (cascaded_paths c.cascading) (composition_pairs good_inner good_right c.composing)

  pub three_claim : ThreeClaim c
  three_claim =
      record {
        holds = holds (FittingTriples left middle right string) (three_bytes c) (three_leads c) accepted good_three paths;
        lists = λ n t.
            lists (FittingTriples left middle right string) (three_bytes c) (three_leads c) accepted (good_within (decode (three_bytes c)) good_three) paths
            n.answer n.says t;
      }

  -- Either bracket
  module _ (r : Brackets left middle right) where
    good_a : Good (decode left)
    good_a = accepted_good left r.a_bytes (composable r.ab).left_good

    good_b : Good (decode middle)
    good_b = accepted_good middle r.b_bytes (composable r.ab).right_good

    good_c : Good (decode right)
    good_c = accepted_good right r.c_bytes (composable r.bc).right_good

    good_ab : Good (decode (composed_bytes r.ab))
    good_ab = composition_good good_a good_b r.ab

    good_bc : Good (decode (composed_bytes r.bc))
    good_bc = composition_good good_b good_c r.bc

    here : Holds (TriplesOf (decode left) (decode middle) (decode right) string) (three_bytes c) (three_leads c)
    here =
        holds (TriplesOf (decode left) (decode middle) (decode right) string) (three_bytes c) (three_leads c) accepted good_three
        (paths_triples left middle right string (named_plain (decode left) (good_tests (decode left) good_a).labels (composable r.ab).left_no_any)
        (named_plain (decode middle) (good_tests (decode middle) good_b).labels (composable r.bc).left_no_any)
        (decode (three_bytes c)) (three_leads c) paths)

    -- The lattice of a bracket: its paths are the triples of the string.
    applied_holds : (zs : List ℕ) (x : Application string zs) (to : List ℕ → ThreePaths) → Good (decode zs) → plain (decode zs) ≡ true
        → PathsAre (Triples (decode left) (decode middle) (decode right)) (decode zs) to
        → Holds (TriplesOf (decode left) (decode middle) (decode right) string) (lattice_bytes x) (λ p. to (through x.origins_left p))
    applied_holds zs x to good none are =
        holds (TriplesOf (decode left) (decode middle) (decode right) string) (lattice_bytes x) (λ p. to (through x.origins_left p))
        (applied_accepted good x) (applied_good good x)
        (lattice_paths (Triples (decode left) (decode middle) (decode right)) (TripleOf (decode left) (decode middle) (decode right) string) string
        (λ y t h. record { triple = t; reads = h }) (λ y t. (t.triple, t.reads)) (decode zs) (decode (lattice_bytes x)) x.origins_left to are none
        (applied_reads good x))

    pub three_agree : ThreeAgree c r
    three_agree =
        record {
          with_left = λ x.
              agree (TriplesOf (decode left) (decode middle) (decode right) string) (three_bytes c) (lattice_bytes x) (three_leads c)
              (λ p. left_leads r (through x.origins_left p)) here
              (applied_holds (left_result r) x (left_leads r) (composition_good good_ab good_c r.ab_c)
              (composition_plain good_ab good_c r.ab_c) (associates r).left_holds.paths);
          with_right = λ x.
              agree (TriplesOf (decode left) (decode middle) (decode right) string) (three_bytes c) (lattice_bytes x) (three_leads c)
              (λ p. right_leads r (through x.origins_left p)) here
              (applied_holds (right_result r) x (right_leads r) (composition_good good_a good_bc r.a_bc)
              (composition_plain good_a good_bc r.a_bc) (associates r).right_holds.paths);
        }
