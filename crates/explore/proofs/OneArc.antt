-- One arc of what is built and the step that it comes from. Assumes nothing.
use mathlib.Core.Path.{◌≡◌, refl, sym, ap, subst, ◌∙◌}
use mathlib.Core.Bool.{Bool}
use mathlib.Core.List.{List}
use Prim.Native.Nat.{ℕ, ◌+◌, ◌≤◌, ◌<◌}
use native.Mathlib.Nat.{zero-add}
use lib.ListN.{length, get_or}
use Rattle.transducer.specs.declared.Arc.{Arc}
use Rattle.transducer.specs.Format.{max_states}
use Rattle.transducer.specs.Path.{no_arc, arc}
use Rattle.transducer.specs.Weight.{Weight}
use Rattle.explore.specs.Explore.{Step, Decides, Built, targets, built, place}
use Rattle.explore.proofs.Member.{At, Mem, at_length, at_get_or, get_d_at, mem_get_or, mem_map, mem_there, place_get_or}
use Rattle.explore.proofs.Numbering.{numbered_closed}
use Rattle.explore.proofs.Arcs.{arc_of, before, steps_from_at, Placed, placed, arcs_from_at}

-- Arc j leaves state i by step s, the nth of that state.
pub record ByStep {A O : Type 0} (same : A → A → Bool) (steps : A → List (Step A O)) (first : A) (b : Built A O) (i j nth : ℕ) (s : Step A O) : Type 0 where
  pub step_at : At (steps (get_or b.states i first)) nth s
  pub number : j ≡ before steps b.states i + nth
  pub below : j < length b.result.arcs
  pub step_is : At b.steps j s
  pub arc_is : arc b.result j ≡ arc_of same b.states i s

module _ {A O : Type 0} (same : A → A → Bool) (steps : A → List (Step A O)) (final : A → Bool) (weight : A → Weight) (first : A) where
  abbrev b : Built A O
  b = built same steps final weight first

  by_step : (i j nth : ℕ) (x : A) (s : Step A O) → At b.states i x → At (steps x) nth s → j ≡ before steps b.states i + nth
      → ByStep same steps first b i j nth s
  unfolding built arc
  by_step i j nth x s h k e =
      let xs : List A = b.states in
      let q : x ≡ get_or xs i first = sym (at_get_or xs i x first h) in
      let here : At b.result.arcs j (arc_of same xs i s) =
      rw e (rw (zero-add i) at (arcs_from_at same xs steps 0 xs i x nth s h k)) in
      let there : At b.steps j s = rw e (steps_from_at steps xs i x nth s h k) in
      record {
        step_at = rw (← q) k;
        number = e;
        below = at_length b.result.arcs j (arc_of same xs i s) here;
        step_is = there;
        arc_is = at_get_or b.result.arcs j (arc_of same xs i s) no_arc here;
      }

  pub step_arc : (i nth : ℕ) (s : Step A O) → i < length b.states → At (steps (get_or b.states i first)) nth s
      → ByStep same steps first b i (before steps b.states i + nth) nth s
  step_arc i nth s l h = by_step i (before steps b.states i + nth) nth (get_or b.states i first) s (get_d_at b.states i first l) h refl

  pub arc_step : (i j : ℕ) (s : Step A O) → (arc b.result j).source ≡ i → At b.steps j s
      → (nth : ℕ) × ByStep same steps first b i j nth s
  unfolding built
  arc_step i j s leaves h =
      let r : Placed steps b.states j s = placed steps b.states j s h in
      let one : ByStep same steps first b r.source j r.nth s = by_step r.source j r.nth r.state s r.source_at r.step_at r.number in
      let q : r.source ≡ i = ap (λ (a : Arc). a.source) (sym one.arc_is) ∙ leaves in
      (r.nth, subst (λ (k : ℕ). ByStep same steps first b k j r.nth s) q one)

  module _ (right : Decides same) (few : length b.states ≤ max_states) where
    -- The target of a step has a number.
    pub step_target : (i nth : ℕ) (s : Step A O) → i < length b.states → At (steps (get_or b.states i first)) nth s → Mem s.target b.states
    unfolding built targets
    step_target i nth s l h =
        let x : A = get_or b.states i first in
        let m : Mem s (steps x) = record { number = nth; stands = h } in
        numbered_closed right (λ z. targets (steps z)) first few x s.target (mem_get_or b.states i first l)
        (mem_map (λ (t : Step A O). t.target) m)

    pub arc_lands : (i j nth : ℕ) (s : Step A O) → i < length b.states → ByStep same steps first b i j nth s
        → ((arc b.result j).target < length b.states) × (get_or b.states (arc b.result j).target first ≡ s.target)
    arc_lands i j nth s l r =
        let t : (arc b.result j).target ≡ place same s.target b.states = ap (λ (a : Arc). a.target) r.arc_is in
        rw t (place_get_or right s.target b.states first (mem_there right (step_target i nth s l r.step_at)))
