-- There are more marks, all of them by arcs, and the stack holds what is to be followed.
use Rattle.transducer.specs.Format.{decode}
use Rattle.reach.specs.Marks.{Widened}
use Rattle.reach.specs.Stack.{Waiting}
use Rattle.reach.proofs.Stacked.{left_to_do}
use Rattle.reach.proofs.stack.drain_stack.Given as goal

abbrev pub invariant-loop-top : goal.invariant-loop-top
invariant-loop-top l = Widened (decode l.table) l.back l.initial.marks l.marks × Waiting (decode l.table) l.back l.marks l.stack l.top

abbrev pub decreases-loop-top : goal.decreases-loop-top
decreases-loop-top l = left_to_do l.marks l.top
