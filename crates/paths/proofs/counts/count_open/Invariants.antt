-- The invariant, `OpenedArcs`: the open arcs among the first `i` are counted.
use Rattle.transducer.specs.Format.{decode}
use Rattle.paths.specs.Counting.{by_marks, OpenedArcs}
use Rattle.paths.proofs.counts.count_open.Given as goal

abbrev pub invariant-loop-i : goal.invariant-loop-i
invariant-loop-i l = OpenedArcs (decode l.table) (by_marks (decode l.table) l.marks) l.i l.pending
