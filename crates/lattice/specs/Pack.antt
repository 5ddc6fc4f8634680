-- How a lattice state is packed into one number. Assumes nothing: these are definitions.
use Rattle.std.specs.Prelude.{ℕ, ◌+◌, ◌*◌, ◌/◌, ◌%◌}
use Rattle.transducer.specs.Format.{max_states}
use Rattle.lattice.specs.declared.State.{State}

-- A lattice state as one number, and its parts again.
unfoldable pub pack : State → ℕ
pack x = x.position * max_states + x.state

unfoldable pub unpacked : (key : ℕ) → State
unpacked k = record { position = k / max_states; state = k % max_states }
