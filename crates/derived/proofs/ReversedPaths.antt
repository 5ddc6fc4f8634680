-- The paths of a reversed transducer are paths taken backwards, with the same arc weights. So the least cost to come there is the least cost from the state
-- that is final. Assumes nothing.
use mathlib.Core.Path.{◌≡◌, refl, sym, ap, ap₂, ◌∙◌}
use mathlib.Core.Bool.{Bool, true, false, cond}
use mathlib.Core.Logic.{◌⊎◌, inl, inr, ◌↔◌}
use mathlib.Core.List.{List, [], ◌∷◌, ◌++◌, map, append-nil, reverse, reverse-cons, reverse-append, reverse-reverse}
use Prim.Native.Nat.{ℕ, ◌<◌}
use native.Mathlib.Omega.{arith}
use lib.Dec.{eqb}
use lib.ListN.{length, get_or, length-map}
use lib.Seq.{append_snoc}
use borrow.Author.Tests.{eqb-true, eq-eqb}
use Rattle.wire.proofs.Bool.{never, true_and, or-true}
use Rattle.transducer.specs.declared.Arc.{Arc}
use Rattle.transducer.specs.Format.{Transducer, Good}
use Rattle.transducer.specs.Path.{arc, is_final, final_weight, non_empty, runs, ends, read_by, written_by, arcs_cost}
use Rattle.transducer.specs.Weight.{Weight, no_weight, plus}
use Rattle.transducer.proofs.Paths.{Runs, runs_cons, cons_runs}
use Rattle.transducer.proofs.Runs.{Accepting, cons_accepting, nil_accepting, runs_append, ends_append, Within, good_within}
use Rattle.transducer.proofs.Weights.{sums, sum, plus_none}
use Rattle.reach.proofs.Sized.{good_sized}
use Rattle.trim.specs.Trim.{through}
use Rattle.trim.proofs.Trimmed.{through_injective}
use Rattle.cycles.specs.Costs.{cost_from}
use Rattle.cycles.specs.Cycles.{Leads, NegativeCycle, negative_cycle_anywhere}
use Rattle.cycles.proofs.Costs.{arcs_cost_append}
use Rattle.cycles.proofs.NegativeCycles.{rises_anywhere}
use Rattle.cycles.proofs.Labels.{read_append, written_append}
use Rattle.distance.specs.Distance.{no_path, least_to_come}
use Rattle.distance.specs.Claim.{ToFinal, LeastFrom, CellClaim}
use Rattle.distance.proofs.ToCome.{cell_claimed}
use Rattle.derived.specs.Reversed.{reversed_arc, origins_reversed, reversed}
use Rattle.derived.specs.Claim.{backwards, LeastBetween}
use Rattle.derived.proofs.ReversedOrder.{Placed, origin_below, origin_placed, origins_distinct}
use Rattle.derived.proofs.ReversedGood.{arc_reversed, reversed_good}

-- A label at the end of a string, with the string reversed.
reverse_label : (x : ℕ) (xs : List ℕ) → reverse (xs ++ non_empty x []) ≡ non_empty x (reverse xs)
unfolding non_empty
reverse_label x xs = on (eqb x 0)
  where
    on : (b : Bool) → reverse (xs ++ cond b [] (x ∷ [])) ≡ cond b (reverse xs) (x ∷ reverse xs)
    on true = ap reverse (append-nil xs)
    on false = reverse-append xs (x ∷ [])

-- Taken backwards, a path is the list of its origins, reversed.
backwards_is : (os p : List ℕ) → backwards os p ≡ reverse (through os p)
unfolding backwards through
backwards_is os [] = refl
backwards_is os (j ∷ p) =
    ap (λ (l : List ℕ). l ++ (get_or os j 0 ∷ [])) (backwards_is os p) ∙ sym (reverse-cons (get_or os j 0) (map (λ i. get_or os i 0) p))

module _ (t : Transducer) (f : ℕ) where
  -- The one final state, at no weight.
  only_final : (u : ℕ) → is_final (reversed t f).finals u ≡ true → f ≡ u
  unfolding reversed is_final
  only_final u h = on (or-true (eqb f u) false h)
    where
      on : (eqb f u ≡ true) ⊎ (false ≡ true) → f ≡ u
      on (inl e) = eqb-true f u e
      on (inr e) = never e

  final_there : is_final (reversed t f).finals f ≡ true
  unfolding reversed is_final
  final_there = rw (eq-eqb f f refl) refl

  no_weight_there : (u : ℕ) → final_weight (reversed t f).finals u ≡ no_weight
  unfolding reversed final_weight
  no_weight_there u = on (eqb f u)
    where
      on : (b : Bool) → cond b no_weight no_weight ≡ no_weight
      on true = refl
      on false = refl

  -- An arc of the reversed transducer.
  record BackArc (u j : ℕ) (a : Arc) : Type 0 where
    below : get_or (origins_reversed t) j 0 < length t.arcs
    arrives : (arc t (get_or (origins_reversed t) j 0)).target ≡ u
    leaves : (arc t (get_or (origins_reversed t) j 0)).source ≡ a.target
    input : a.input ≡ (arc t (get_or (origins_reversed t) j 0)).input
    output : a.output ≡ (arc t (get_or (origins_reversed t) j 0)).output
    weight : (arc t (get_or (origins_reversed t) j 0)).weight ≡ a.weight

  back_arc : (u j : ℕ) → j < length (reversed t f).arcs → (arc (reversed t f) j).source ≡ u → BackArc u j (arc (reversed t f) j)
  unfolding reversed reversed_arc
  back_arc u j h e =
      let b : j < length (origins_reversed t) = omega (arith, h, length-map (origins_reversed t) (λ i. reversed_arc (arc t i))) in
      let is : arc (reversed t f) j ≡ reversed_arc (arc t (get_or (origins_reversed t) j 0)) = arc_reversed t f j b in
      record {
        below = origin_below t j b;
        arrives = sym (ap (λ (a : Arc). a.source) is) ∙ e;
        leaves = sym (ap (λ (a : Arc). a.target) is);
        input = ap (λ (a : Arc). a.input) is;
        output = ap (λ (a : Arc). a.output) is;
        weight = sym (ap (λ (a : Arc). a.weight) is);
      }

  -- Taken backwards, a path of the reversed transducer leads from its end to its beginning. It reads and writes its strings from the end, and its arcs
  -- cost the same.
  pub record Back (u : ℕ) (p : List ℕ) : Type 0 where
    pub leads : Leads t (ends (reversed t f) u p) u (backwards (origins_reversed t) p)
    pub reads : read_by (reversed t f) p ≡ reverse (read_by t (backwards (origins_reversed t) p))
    pub writes : written_by (reversed t f) p ≡ reverse (written_by t (backwards (origins_reversed t) p))
    pub costs : arcs_cost t (backwards (origins_reversed t) p) ≡ arcs_cost (reversed t f) p

  pub back : (u : ℕ) (p : List ℕ) → runs (reversed t f) u p ≡ true → Back u p
  unfolding backwards runs ends arcs_cost read_by written_by
  back u [] h = record { leads = record { goes = refl; there = refl }; reads = refl; writes = refl; costs = refl }
  back u (j ∷ p) h =
      let r : Transducer = reversed t f in
      let q : Runs r u j p = runs_cons r u j p h in
      let a : BackArc u j (arc r j) = back_arc u j q.below q.leaves in
      let v : ℕ = (arc r j).target in
      let m : Back v p = back v p q.rest in
      let e : ℕ = ends r v p in
      let l : List ℕ = backwards (origins_reversed t) p in
      let i : ℕ = get_or (origins_reversed t) j 0 in
      let last : runs t (ends t e l) (i ∷ []) ≡ true =
      cons_runs t (ends t e l) i [] (record { below = a.below; leaves = a.leaves ∙ sym m.leads.there; rest = refl }) in
      let cost : arcs_cost t (l ++ (i ∷ [])) ≡ plus (arcs_cost t l) (plus (arc t i).weight no_weight) = arcs_cost_append t l (i ∷ []) in
      let same : arcs_cost t l ≡ arcs_cost r p = m.costs in
      let weight : (arc t i).weight ≡ (arc r j).weight = a.weight in
      record {
        leads =
            record {
              goes = runs_append t e l (i ∷ []) ∙ true_and (runs t e l) (runs t (ends t e l) (i ∷ [])) m.leads.goes last;
              there = ends_append t e l (i ∷ []) ∙ a.arrives;
            };
        reads =
            ap₂ non_empty a.input m.reads
            ∙ sym (ap reverse (read_append t l (i ∷ [])) ∙ reverse_label (arc t i).input (read_by t l));
        writes =
            ap₂ non_empty a.output m.writes
            ∙ sym (ap reverse (written_append t l (i ∷ [])) ∙ reverse_label (arc t i).output (written_by t l));
        costs = omega (arith, sums, cost, same, weight, sum (arc t i).weight no_weight);
      }

  -- A cycle taken backwards is a cycle.
  pub cycle_back : NegativeCycle (reversed t f) → NegativeCycle t
  cycle_back c =
      let m : Back c.state c.cycle = back c.state c.cycle c.around.goes in
      record {
        state = c.state;
        cycle = backwards (origins_reversed t) c.cycle;
        around = rw c.around.there at m.leads;
        sum = rw m.costs c.sum;
      }

  pub back_final : (u : ℕ) (p : List ℕ) → Accepting (reversed t f) u p → Leads t f u (backwards (origins_reversed t) p)
  back_final u p a = rw (sym (only_final (ends (reversed t f) u p) a.final)) at (back u p a.goes).leads

  pub cost_back : (u : ℕ) (p : List ℕ) → runs (reversed t f) u p ≡ true → arcs_cost t (backwards (origins_reversed t) p) ≡ cost_from (reversed t f) u p
  unfolding cost_from
  cost_back u p h =
      let x : Weight = arcs_cost (reversed t f) p in
      let none : final_weight (reversed t f).finals (ends (reversed t f) u p) ≡ no_weight = no_weight_there (ends (reversed t f) u p) in
      (back u p h).costs ∙ sym (ap (plus x) none ∙ plus_none x)

  -- No two paths are one taken backwards.
  pub backwards_injective : (s s' : ℕ) (p p' : List ℕ) → runs (reversed t f) s p ≡ true → runs (reversed t f) s' p' ≡ true
      → backwards (origins_reversed t) p ≡ backwards (origins_reversed t) p' → p ≡ p'
  unfolding reversed
  backwards_injective s s' p p' h h' e =
      let os : List ℕ = origins_reversed t in
      let size : length (reversed t f).arcs ≡ length os = length-map os (λ i. reversed_arc (arc t i)) in
      through_injective (reversed t f) os (λ j j' b b' same. origins_distinct t j j' (omega (arith, b, size)) (omega (arith, b', size)) same) s s' p p' h h'
      (sym (reverse-reverse (through os p))
      ∙ (ap reverse (sym (backwards_is os p) ∙ (e ∙ backwards_is os p')) ∙ reverse-reverse (through os p')))

  -- Each path from the state that is final is one of the reversed transducer, taken backwards.
  module _ (w : Within t) where
    pub record Forth (u : ℕ) (q : List ℕ) : Type 0 where
      pub path : List ℕ
      pub accepting : Accepting (reversed t f) u path
      pub is : backwards (origins_reversed t) path ≡ q

    one_forth : (i v : ℕ) (p : List ℕ) → i < length t.arcs → (arc t i).source ≡ v → Accepting (reversed t f) v p
        → Forth (arc t i).target (backwards (origins_reversed t) p ++ (i ∷ []))
    unfolding reversed_arc reversed backwards
    one_forth i v p b e a =
        let r : Transducer = reversed t f in
        let k : Placed i (origins_reversed t) = origin_placed t w i b in
        let j : ℕ = k.place in
        let is : arc r j ≡ reversed_arc (arc t i) = arc_reversed t f j k.below ∙ ap (λ (x : ℕ). reversed_arc (arc t x)) k.is in
        let source : (arc r j).source ≡ (arc t i).target = ap (λ (a : Arc). a.source) is in
        let target : (arc r j).target ≡ v = ap (λ (a : Arc). a.target) is ∙ e in
        let below : j < length r.arcs = omega (arith, k.below, length-map (origins_reversed t) (λ i. reversed_arc (arc t i))) in
        record {
          path = j ∷ p;
          accepting = cons_accepting r (arc t i).target j p (record { below = below; leaves = source; rest = rw target a });
          is = ap (λ (x : ℕ). backwards (origins_reversed t) p ++ (x ∷ [])) k.is;
        }

    pub forth : (q : List ℕ) (v u : ℕ) (p : List ℕ) → Leads t v u q → Accepting (reversed t f) v p → Forth u (backwards (origins_reversed t) p ++ q)
    unfolding ends
    forth [] v u p l a =
        let there : v ≡ u = l.there in
        record { path = p; accepting = rw there at a; is = sym (append-nil (backwards (origins_reversed t) p)) }
    forth (i ∷ q) v u p l a =
        let h : Runs t v i q = runs_cons t v i q l.goes in
        let x : ℕ = (arc t i).target in
        let b : List ℕ = backwards (origins_reversed t) p in
        let one : Forth x (b ++ (i ∷ [])) = one_forth i v p h.below h.leaves a in
        let more : Forth u (backwards (origins_reversed t) one.path ++ q) =
        forth q x u one.path (record { goes = h.rest; there = l.there }) one.accepting in
        record {
          path = more.path;
          accepting = more.accepting;
          is = more.is ∙ (ap (λ (m : List ℕ). m ++ q) one.is ∙ append_snoc b i q);
        }

    pub forth_final : (u : ℕ) (q : List ℕ) → Leads t f u q → Forth u q
    unfolding backwards
    forth_final u q l = forth q f u [] l (nil_accepting (reversed t f) f final_there)

    pub forth_cost : (u : ℕ) (q : List ℕ) (m : Forth u q) → cost_from (reversed t f) u m.path ≡ arcs_cost t q
    forth_cost u q m = sym (cost_back u m.path m.accepting.goes) ∙ ap (arcs_cost t) m.is

-- If no cycle sums below zero, the least cost to come in the reversed transducer is the least cost of a path from the state that is final.
module _ (t : Transducer) (f : ℕ) (g : Good t) (b : f < t.states) (no_cycle : NegativeCycle t → ⊥) where
  pub reversed_rises : negative_cycle_anywhere (reversed t f) ≡ false
  reversed_rises = rises_anywhere (reversed t f) (λ c. no_cycle (cycle_back t f c))

  pub record Coming (u : ℕ) : Type 0 where
    pub none : (least_to_come (reversed t f) u ≡ no_path) ↔ ((p : List ℕ) → Leads t f u p → ⊥)
    pub some : (least_to_come (reversed t f) u ≡ no_path → ⊥) → LeastBetween t f u (least_to_come (reversed t f) u)

  pub coming : (u : ℕ) → Coming u
  coming u =
      let r : Transducer = reversed t f in
      let cell : CellClaim r u (least_to_come r u) = cell_claimed r (good_sized r (reversed_good t f g b)) reversed_rises u in
      let to : (p : List ℕ) → (q : Forth t f (good_within t g) u p) → ToFinal r u q.path =
      λ p q. record { goes = q.accepting.goes; final = q.accepting.final } in
      record {
        none = (
          λ e p l. let q : Forth t f (good_within t g) u p = forth_final t f (good_within t g) u p l in cell.none.0 e q.path (to p q),
          λ no. cell.none.1 (λ p a. no (backwards (origins_reversed t) p) (back_final t f u p (record { goes = a.goes; final = a.final }))),
        );
        some = λ there.
            let l : LeastFrom r u (least_to_come r u) = cell.some there in
            record {
              path = backwards (origins_reversed t) l.path;
              leads = back_final t f u l.path (record { goes = l.leads.goes; final = l.leads.final });
              costs = cost_back t f u l.path l.leads.goes ∙ l.costs;
              least = λ p k.
                  let q : Forth t f (good_within t g) u p = forth_final t f (good_within t g) u p k in
                  rw (sym (forth_cost t f (good_within t g) u p q)) (l.least q.path (to p q));
            };
      }
