-- Whatever was built, the runs that are left lead to what serving the state builds, and `last` and `to` bound the arcs of the two states.
use Rattle.std.proofs.Common.{◌+◌, ◌-◌}
use Rattle.transducer.specs.Format.{decode}
use Rattle.explore.specs.Walk.{Sofar, Walked, state_served}
use Rattle.compose.specs.Walk.{key_steps}
use Rattle.compose.proofs.WalkCode.{Placed, Serving}
use Rattle.compose.proofs.walking.expand_state.Given as goal

abbrev pub invariant-loop-i : goal.invariant-loop-i
invariant-loop-i l = record {
  serving : (b : Sofar) → Walked 2 b l.fn.w l.fn.table l.fn.origins l.fn.states l.fn.heads l.fn.links
      → Serving (decode l.left) (decode l.right) l.x l.source l.last (state_served (key_steps (decode l.left) (decode l.right)) l.source b)
      l.i l.walk l.table l.origins l.states l.heads l.links;
  parts : Placed (decode l.left) (decode l.right) l.x l.initial.i l.last l.to;
}

abbrev pub decreases-loop-i : goal.decreases-loop-i
decreases-loop-i l = l.last + 1 - l.i
