-- An arc that makes its source better leads to a state that waits (`Draining`). With each state that comes off, what is to do falls.
use Rattle.transducer.specs.Format.{decode}
use Rattle.relaxation.specs.Queue.{mark, Draining, none, to_do}
use Rattle.relaxation.proofs.worklist.drain.Given as goal

abbrev pub invariant-loop-s : goal.invariant-loop-s
invariant-loop-s l = Draining (decode l.table) (mark l.marks) none l.costs l.lens l.queue.waits

abbrev pub decreases-loop-s : goal.decreases-loop-s
decreases-loop-s l = to_do (decode l.table) l.costs l.lens l.queue.count
