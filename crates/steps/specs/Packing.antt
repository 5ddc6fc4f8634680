-- Packed states: a composed state as one number, its key. Assumes nothing: these are definitions.
use Rattle.std.specs.Prelude.{ℕ, ◌+◌, ◌*◌, ◌/◌, ◌%◌, ◌<◌}
use Rattle.transducer.specs.Format.{max_states}
use Rattle.steps.specs.declared.State.{State}

-- The parts of a state fit into a key: states below 1,024, and either filter state.
pub record Bounded (x : State) : Type 0 where
  pub left : x.left < max_states
  pub right : x.right < max_states
  pub filter : x.filter < 2

-- A composed state as one number, and its parts again.
unfoldable pub pack : State → ℕ
pack x = (x.left * max_states + x.right) * 2 + x.filter

unfoldable pub unpacked : (key : ℕ) → State
unpacked k = record { left = k / (2 * max_states); right = k / 2 % max_states; filter = k % 2 }
