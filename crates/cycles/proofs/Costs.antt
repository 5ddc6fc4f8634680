-- The cost of a path from a state, one arc at a time and end to end. Assumes nothing.
use mathlib.Core.Path.{◌≡◌, refl, sym, ap, ◌∙◌}
use mathlib.Core.List.{List, [], ◌∷◌, ◌++◌}
use Prim.Native.Nat.{ℕ}
use Rattle.transducer.specs.Format.{Transducer}
use Rattle.transducer.specs.Path.{arc, final_weight, ends, arcs_cost, path_cost}
use Rattle.transducer.specs.Weight.{Weight, plus}
use Rattle.transducer.proofs.Weights.{none_plus, plus_assoc}
use Rattle.cycles.specs.Costs.{cost_from}

pub cost_start : (t : Transducer) (p : List ℕ) → cost_from t t.start p ≡ path_cost t p
unfolding cost_from path_cost
cost_start t p = refl

pub cost_nil : (t : Transducer) (s : ℕ) → cost_from t s [] ≡ final_weight t.finals s
unfolding cost_from arcs_cost ends
cost_nil t s = none_plus (final_weight t.finals s)

pub cost_cons : (t : Transducer) (s i : ℕ) (p : List ℕ) → cost_from t s (i ∷ p) ≡ plus (arc t i).weight (cost_from t (arc t i).target p)
unfolding cost_from arcs_cost ends
cost_cons t s i p = plus_assoc (arc t i).weight (arcs_cost t p) (final_weight t.finals (ends t (arc t i).target p))

pub cost_append : (t : Transducer) (s : ℕ) (p q : List ℕ) → cost_from t s (p ++ q) ≡ plus (arcs_cost t p) (cost_from t (ends t s p) q)
unfolding arcs_cost ends
cost_append t s [] q = sym (none_plus (cost_from t s q))
cost_append t s (i ∷ p) q =
    let u = (arc t i).target in
    cost_cons t s i (p ++ q)
    ∙ (ap (λ (x : Weight). plus (arc t i).weight x) (cost_append t u p q)
    ∙ sym (plus_assoc (arc t i).weight (arcs_cost t p) (cost_from t (ends t u p) q)))

-- A cycle in front.
pub cost_round : (t : Transducer) (s : ℕ) (p q : List ℕ) → ends t s p ≡ s → cost_from t s (p ++ q) ≡ plus (arcs_cost t p) (cost_from t s q)
cost_round t s p q back = cost_append t s p q ∙ ap (λ (u : ℕ). plus (arcs_cost t p) (cost_from t u q)) back

pub arcs_cost_append : (t : Transducer) (p q : List ℕ) → arcs_cost t (p ++ q) ≡ plus (arcs_cost t p) (arcs_cost t q)
unfolding arcs_cost
arcs_cost_append t [] q = sym (none_plus (arcs_cost t q))
arcs_cost_append t (i ∷ p) q =
    ap (λ (x : Weight). plus (arc t i).weight x) (arcs_cost_append t p q) ∙ sym (plus_assoc (arc t i).weight (arcs_cost t p) (arcs_cost t q))
