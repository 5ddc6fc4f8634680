-- Composition with the epsilon-sequencing filter (paper 01: the join): built from the states and steps of the crate steps. Assumes nothing: these
-- are definitions.
use Rattle.std.specs.Prelude.{Bool, ◌&&◌}
use Rattle.transducer.specs.Format.{Transducer}
use Rattle.transducer.specs.Path.{is_final, final_weight}
use Rattle.transducer.specs.Weight.{Weight, plus}
use Rattle.explore.specs.Explore.{Built, built}
use Rattle.steps.specs.declared.State.{State}
use Rattle.steps.specs.declared.Origin.{Origin}
use Rattle.steps.specs.Steps.{same_state, steps, first_state}

-- A state is final where both its parts are, in either filter state; its weight is the sum of theirs.
unfoldable pub final_state : Transducer → Transducer → State → Bool
final_state t u x = is_final t.finals x.left && is_final u.finals x.right

unfoldable pub state_weight : Transducer → Transducer → State → Weight
state_weight t u x = plus (final_weight t.finals x.left) (final_weight u.finals x.right)

-- The composition, untrimmed, with the states and steps that it was built from.
unfoldable pub composed : Transducer → Transducer → Built State Origin
composed t u = built same_state (steps t u) (final_state t u) (state_weight t u) (first_state t u)
