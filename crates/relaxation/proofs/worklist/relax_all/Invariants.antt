-- The arcs from `i` on are left (`Draining`).
use Rattle.transducer.specs.Format.{decode}
use Rattle.relaxation.specs.Queue.{mark, Draining}
use Rattle.relaxation.proofs.Draining.{from_on}
use Rattle.relaxation.proofs.worklist.relax_all.Given as goal

abbrev pub invariant-loop-i : goal.invariant-loop-i
invariant-loop-i l = Draining (decode l.table) (mark l.marks) (from_on l.i) l.costs l.lens l.queue.waits
