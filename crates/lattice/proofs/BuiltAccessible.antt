-- Each state of what is built is accessible. Assumes nothing.
use mathlib.Core.Path.{◌≡◌, refl, sym, ap, ◌∙◌}
use mathlib.Core.Bool.{Bool, true}
use mathlib.Core.List.{List, ◌∷◌}
use Prim.Native.Nat.{ℕ, ◌+◌, ◌≤◌, ◌<◌}
use native.Mathlib.Omega.{arith}
use lib.ListN.{length, get_or}
use Rattle.transducer.specs.declared.Arc.{Arc}
use Rattle.transducer.specs.Format.{max_states}
use Rattle.transducer.specs.Path.{arc}
use Rattle.transducer.proofs.Runs.{Within}
use Rattle.transducer.specs.Weight.{Weight}
use Rattle.explore.specs.Explore.{Step, Decides, Built, targets, built}
use Rattle.explore.proofs.Arcs.{before}
use Rattle.explore.proofs.Member.{Mem, map_mem}
use Rattle.explore.proofs.Numbered.{Reached, Numbered, built_numbered}
use Rattle.explore.proofs.Numbering.{reach_first, reach_next}
use Rattle.explore.proofs.OneArc.{ByStep, step_arc, arc_lands}
use Rattle.explore.proofs.Parts.{built_start, built_some, built_states}
use Rattle.reach.specs.Reach.{accessible, AllAccessible}
use Rattle.reach.proofs.Reach.{accessible_start}
use Rattle.reach.proofs.Closure.{accessible_passes}

module _ {A O : Type 0} (same : A → A → Bool) (steps : A → List (Step A O)) (final : A → Bool) (weight : A → Weight) (first : A) (right : Decides same) where
  abbrev b : Built A O
  b = built same steps final weight first

  module _ (few : length b.states ≤ max_states) (w : Within b.result) where
    numbers : Numbered same steps first b.states (first ∷ targets b.steps)
    numbers = built_numbered same steps final weight first right few

    abbrev Comes : ℕ → Type 0
    Comes i = accessible b.result.states b.result i ≡ true

    -- The state behind a step is accessible where the one before it is.
    step_accessible : (j i : ℕ) (s : Step A O) → j < length b.states → Mem s (steps (get_or b.states j first)) → i < length b.states
        → get_or b.states i first ≡ s.target → Comes j → Comes i
    step_accessible j i s l m k e c =
        let n : ℕ = before steps b.states j + m.number in
        let r : ByStep same steps first b j n m.number s = step_arc same steps final weight first j m.number s l m.stands in
        let lands = arc_lands same steps final weight first right few j n m.number s l r in
        let leaves : (arc b.result n).source ≡ j = ap (λ (a : Arc). a.source) r.arc_is in
        let there : (arc b.result n).target ≡ i = numbers.once (arc b.result n).target i lands.0 k (lands.1 ∙ sym e) in
        let from : Comes (arc b.result n).source = rw leaves c in
        rw there at (accessible_passes b.result w n r.below from)

    reach_accessible : (x : A) → Reached steps first x → (i : ℕ) → i < length b.states → get_or b.states i first ≡ x → Comes i
    unfolding targets
    reach_accessible x reach_first i l e =
        let is : i ≡ b.result.start =
        numbers.once i 0 l (built_some same steps final weight first) (e ∙ sym numbers.begins) ∙ sym (built_start same steps final weight first) in
        rw is (accessible_start b.result.states b.result)
    reach_accessible y (reach_next {x} r m) i l e =
        let j = numbers.all x r in
        let c : Comes j.0 = reach_accessible x r j.0 j.1 j.2 in
        let s = map_mem (λ (s : Step A O). s.target) (steps x) m in
        step_accessible j.0 i s.0 j.1 (rw j.2 s.1) l (e ∙ sym s.2) c

    pub built_accessible : AllAccessible b.result
    built_accessible s l =
        let l' : s < length b.states = omega (arith, built_states same steps final weight first) in
        reach_accessible (get_or b.states s first) (numbers.reached s l') s l' refl
