-- The states of numbers below `s` are served, and serving those from `s` on gives what is explored in the end.
use Rattle.std.proofs.Common.{◌-◌}
use Rattle.transducer.specs.Format.{max_states}
use Rattle.explore.proofs.Walking.{Walking}
use Rattle.steps.specs.Steps.{first_state}
use Rattle.steps.specs.Packing.{pack}
use Rattle.steps.proofs.Within.{Within}
use Rattle.compose.specs.Walk.{left_of, right_of, key_steps}
use Rattle.compose.proofs.walking.walk_all.Given as goal

abbrev pub invariant-loop-s : goal.invariant-loop-s
invariant-loop-s l =
    let t = left_of l.sides in
    let u = right_of l.sides in
    Walking pack (Within t u) 2 (key_steps t u) (pack (first_state t u)) l.s l.walk l.table l.origins l.states l.heads l.links

abbrev pub decreases-loop-s : goal.decreases-loop-s
decreases-loop-s l = max_states - l.s
