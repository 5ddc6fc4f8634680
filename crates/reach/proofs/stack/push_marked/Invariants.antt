-- The marked states below `state` are on the stack.
use Rattle.reach.proofs.Stacked.{Pushing}
use Rattle.reach.proofs.stack.push_marked.Given as goal

abbrev pub invariant-loop-state : goal.invariant-loop-state
invariant-loop-state l = Pushing l.state l.marks l.stack l.top
