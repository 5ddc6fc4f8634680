-- The arcs that lead to `s`, from the link on, are relaxed (`Relaxing`).
use Rattle.transducer.specs.Format.{decode}
use Rattle.relaxation.specs.Queue.{mark, to_do}
use Rattle.relaxation.proofs.Draining.{Relaxing}
use Rattle.relaxation.proofs.worklist.relax_into.Given as goal

abbrev pub invariant-loop-link : goal.invariant-loop-link
invariant-loop-link l =
    Relaxing (decode l.table) (mark l.marks) l.s l.link (to_do (decode l.table) l.fn.costs l.fn.lens l.fn.queue.count) l.costs l.lens l.queue.waits l.queue.count

abbrev pub decreases-loop-link : goal.decreases-loop-link
decreases-loop-link l = l.link
