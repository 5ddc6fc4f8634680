-- A path with at least as many arcs as there are states has a cycle: where it sums below zero it is one of those of refusal 19, and else it can be left
-- out. So an accepting path that is no dearer has fewer arcs than there are states, or a cycle below zero lies on it. Assumes nothing.
use mathlib.Core.Path.{◌≡◌, refl, ap, ◌∙◌}
use mathlib.Core.Bool.{Bool, true, false}
use mathlib.Core.Logic.{◌⊎◌, inl, inr}
use mathlib.Core.List.{List, ◌++◌}
use Prim.Native.Nat.{ℕ, zero, suc, ◌+◌, ◌≤◌, ◌<◌}
use native.Mathlib.Omega.{arith}
use lib.Dec.{ltb}
use lib.ListN.{length, length-append}
use borrow.Author.Tests.{ltb-true, ltb-false}
use Rattle.transducer.specs.Format.{Transducer}
use Rattle.transducer.specs.Path.{runs, ends, written_by, arcs_cost}
use Rattle.transducer.specs.Weight.{no_weight, plus, AtMost, Below}
use Rattle.transducer.proofs.Weights.{sums, either}
use Rattle.transducer.proofs.Runs.{Accepting, append_accepting, runs_append, ends_append, Within}
use Rattle.transducer.proofs.Cycles.{Cycle, cycle_round, long_has_cycle}
use Rattle.wire.proofs.Bool.{true_and}
use Rattle.cycles.specs.Costs.{cost_from}
use Rattle.cycles.specs.Cycles.{NegativeCycleFrom}
use Rattle.cycles.proofs.Costs.{cost_append, cost_round}
use Rattle.cycles.proofs.Labels.{labels_append}

-- The rest is an accepting path from the cycle on, and the whole is one with the cycle on it.
pub negative_cycle_rest : (t : Transducer) (s : ℕ) → (f : NegativeCycleFrom t s) → Accepting t (ends t s f.lead) f.rest
negative_cycle_rest t s f = record { goes = f.on; final = f.final }

pub negative_cycle_accepting : (t : Transducer) (s : ℕ) → (f : NegativeCycleFrom t s) → Accepting t s (f.lead ++ (f.cycle ++ f.rest))
negative_cycle_accepting t s f =
    append_accepting t s f.lead (f.cycle ++ f.rest) f.there
    (append_accepting t (ends t s f.lead) f.cycle f.rest f.around (rw f.back (negative_cycle_rest t s f)))

pub cycle_falling : (t : Transducer) (s : ℕ) (p : List ℕ) → (r : Cycle t s p) → Accepting t s p → Below (arcs_cost t r.cycle) no_weight
    → NegativeCycleFrom t s
cycle_falling t s p r a low =
    let o = cycle_round t s p r a in
    record {
      lead = r.lead;
      cycle = r.cycle;
      rest = r.rest;
      there = o.there;
      around = o.around;
      back = o.back;
      on = o.on.goes;
      final = o.on.final;
      sum = low;
    }

-- A path in front.
pub negative_cycle_behind : (t : Transducer) (s : ℕ) (p : List ℕ) → runs t s p ≡ true → NegativeCycleFrom t (ends t s p) → NegativeCycleFrom t s
negative_cycle_behind t s p h f =
    let to : ends t s (p ++ f.lead) ≡ ends t (ends t s p) f.lead = ends_append t s p f.lead in
    record {
      lead = p ++ f.lead;
      cycle = f.cycle;
      rest = f.rest;
      there = runs_append t s p f.lead ∙ true_and (runs t s p) (runs t (ends t s p) f.lead) h f.there;
      around = rw to f.around;
      back = rw to f.back;
      on = rw to f.on;
      final = rw to f.final;
      sum = f.sum;
    }

-- An accepting path that is no dearer, writes no more labels and has no more arcs, fewer than there are states.
pub record Shorter (t : Transducer) (s : ℕ) (p : List ℕ) : Type 0 where
  pub path : List ℕ
  pub accepting : Accepting t s path
  pub few : length path < t.states
  pub costs : AtMost (cost_from t s path) (cost_from t s p)
  pub labels : length (written_by t path) ≤ length (written_by t p)
  pub arcs : length path ≤ length p

-- A cycle left out.
record Cut (t : Transducer) (s : ℕ) (p : List ℕ) : Type 0 where
  path : List ℕ
  accepting : Accepting t s path
  costs : AtMost (cost_from t s path) (cost_from t s p)
  labels : length (written_by t path) ≤ length (written_by t p)
  arcs : length path < length p

cut : (t : Transducer) (s : ℕ) (p : List ℕ) → (r : Cycle t s p) → Accepting t s p → AtMost no_weight (arcs_cost t r.cycle) → Cut t s p
cut t s p r a high =
    let o = cycle_round t s p r a in
    let u : ℕ = ends t s r.lead in
    let q : List ℕ = r.lead ++ r.rest in
    let long : length p ≡ length r.lead + (length r.cycle + length r.rest) = ap length r.whole ∙ simp length-append in
    let short : length q ≡ length r.lead + length r.rest = length-append r.lead r.rest in
    let some : 0 < length r.cycle = r.some in
    let around : cost_from t u (r.cycle ++ r.rest) ≡ plus (arcs_cost t r.cycle) (cost_from t u r.rest) =
    cost_round t u r.cycle r.rest o.back in
    let more : AtMost (cost_from t u r.rest) (cost_from t u (r.cycle ++ r.rest)) = rw around (omega (arith, sums)) in
    let whole : cost_from t s p ≡ plus (arcs_cost t r.lead) (cost_from t u (r.cycle ++ r.rest)) =
    ap (cost_from t s) r.whole ∙ cost_append t s r.lead (r.cycle ++ r.rest) in
    record {
      path = q;
      accepting = append_accepting t s r.lead r.rest o.there o.on;
      costs = rw (cost_append t s r.lead r.rest, whole) (omega (arith, sums));
      labels = omega (
        arith,
        ap (λ (x : List ℕ). length (written_by t x)) r.whole,
        labels_append t r.lead (r.cycle ++ r.rest),
        labels_append t r.cycle r.rest,
        labels_append t r.lead r.rest,
      );
      arcs = omega arith;
    }

shorter_by : (t : Transducer) → Within t → (s : ℕ) → s < t.states → (fuel : ℕ) (p : List ℕ) → length p ≤ fuel → Accepting t s p
    → NegativeCycleFrom t s ⊎ Shorter t s p
shorter_by t w s b zero p h a =
    inr (record { path = p; accepting = a; few = omega arith; costs = omega (arith, sums); labels = omega arith; arcs = omega arith })
shorter_by t w s b (suc fuel) p h a = on (λ q l. shorter_by t w s b fuel q l) (ltb (length p) t.states) refl
  where
    next : (q : Cut t s p) → NegativeCycleFrom t s ⊎ Shorter t s q.path → NegativeCycleFrom t s ⊎ Shorter t s p
    next q (inl f) = inl f
    next q (inr d) =
        inr (record {
          path = d.path;
          accepting = d.accepting;
          few = d.few;
          costs = omega (arith, sums, d.costs, q.costs);
          labels = omega (arith, d.labels, q.labels);
          arcs = omega (arith, d.arcs, q.arcs);
        })

    around : ((q : List ℕ) → length q ≤ fuel → Accepting t s q → NegativeCycleFrom t s ⊎ Shorter t s q) → (r : Cycle t s p)
        → (AtMost no_weight (arcs_cost t r.cycle)) ⊎ (Below (arcs_cost t r.cycle) no_weight) → NegativeCycleFrom t s ⊎ Shorter t s p
    around below r (inl high) =
        let q : Cut t s p = cut t s p r a high in
        let less : length q.path < length p = q.arcs in
        next q (below q.path (omega arith) q.accepting)
    around below r (inr low) = inl (cycle_falling t s p r a low)

    on : ((q : List ℕ) → length q ≤ fuel → Accepting t s q → NegativeCycleFrom t s ⊎ Shorter t s q) → (c : Bool) → ltb (length p) t.states ≡ c
        → NegativeCycleFrom t s ⊎ Shorter t s p
    on below true e =
        inr (record { path = p; accepting = a; few = ltb-true (length p) t.states e; costs = omega (arith, sums); labels = omega arith; arcs = omega arith })
    on below false e =
        let r : Cycle t s p = long_has_cycle t w s p b a.goes (ltb-false (length p) t.states e) in
        around below r (either (arcs_cost t r.cycle) no_weight)

pub negative_cycle_or_shorter : (t : Transducer) → Within t → (s : ℕ) (p : List ℕ) → s < t.states → Accepting t s p → NegativeCycleFrom t s ⊎ Shorter t s p
negative_cycle_or_shorter t w s p b a = shorter_by t w s b (length p) p (omega arith) a

pub shorter : (t : Transducer) → Within t → (s : ℕ) (p : List ℕ) → s < t.states → (NegativeCycleFrom t s → ⊥) → Accepting t s p → Shorter t s p
shorter t w s p b none a = on (negative_cycle_or_shorter t w s p b a)
  where
    on : NegativeCycleFrom t s ⊎ Shorter t s p → Shorter t s p
    on (inl f) = absurd (none f)
    on (inr d) = d
