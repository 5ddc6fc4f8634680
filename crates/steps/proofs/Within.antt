-- The states of a composition have parts that are states of the two transducers, so they can be packed. Assumes nothing.
use mathlib.Core.List.{Memᴰ as In}
use Prim.Native.Nat.{◌≤◌, ◌<◌}
use native.Mathlib.Omega.{arith}
use Rattle.transducer.specs.Format.{max_states, Transducer, Good}
use Rattle.transducer.proofs.RoundTrip.{good_range, good_content}
use Rattle.explore.specs.Explore.{Step}
use Rattle.steps.specs.declared.Origin.{Origin}
use Rattle.steps.specs.declared.State.{State}
use Rattle.steps.specs.Steps.{left_alone, right_alone, both_step, steps, first_state}
use Rattle.steps.specs.Packing.{Bounded}
use Rattle.steps.proofs.Moves.{Move, by_left, by_right, by_both, step_move}

-- The parts of a state are states of the two transducers.
pub record Within (t u : Transducer) (x : State) : Type 0 where
  pub left : x.left < t.states
  pub right : x.right < u.states
  pub filter : x.filter < 2

module _ (t u : Transducer) (tg : Good t) (ug : Good u) where
  pub within_bounded : (x : State) → Within t u x → Bounded x
  within_bounded x w =
      let p : t.states ≤ max_states = (good_range t tg).states in
      let q : u.states ≤ max_states = (good_range u ug).states in
      record { left = omega (arith, w.left); right = omega (arith, w.right); filter = w.filter }

  pub first_within : Within t u (first_state t u)
  unfolding first_state
  first_within = record { left = (good_range t tg).start; right = (good_range u ug).start; filter = omega arith }

  pub step_within : (x : State) (s : Step State Origin) → Within t u x → In s (steps t u x) → Within t u s.target
  unfolding left_alone right_alone both_step
  step_within x s w m = on (step_move t u x s m)
    where
      on : Move t u x s → Within t u s.target
      on (by_left r) =
          rw r.made (record { left = (good_content t tg).target r.left_arc r.below; right = w.right; filter = omega arith })
      on (by_right r) =
          rw r.made (record { left = w.left; right = (good_content u ug).target r.right_arc r.below; filter = omega arith })
      on (by_both r) =
          rw r.made
          (record {
            left = (good_content t tg).target r.left_arc r.left_below;
            right = (good_content u ug).target r.right_arc r.right_below;
            filter = omega arith;
          })
