-- The inner loop follows the arcs that lead to the state on top; the outer one has counted the marked states, and the others wait.
use Rattle.std.proofs.Common.{not}
use Rattle.transducer.specs.Format.{decode}
use Rattle.reach.specs.Counted.{count}
use Rattle.reach.specs.Cell.{link_of}
use Rattle.capped.specs.Marks.{marked}
use Rattle.paths.specs.Counting.{Underway, Grown}
use Rattle.paths.proofs.Releasing.{Releasing}
use Rattle.paths.proofs.counts.count_all.Given as goal

abbrev pub invariant-loop-cell : goal.invariant-loop-cell
invariant-loop-cell l = Releasing (decode l.table) l.marks l.s l.whole.value l.pending l.stack l.top l.counts l.cell

abbrev pub decreases-loop-cell : goal.decreases-loop-cell
decreases-loop-cell l = link_of l.cell

abbrev pub invariant-loop-top : goal.invariant-loop-top
invariant-loop-top l = Underway (decode l.table) l.marks l.pending l.stack l.top l.counts × Grown l.initial.marks l.marks

abbrev pub decreases-loop-top : goal.decreases-loop-top
decreases-loop-top l = count (decode l.table).states (λ u. not (marked l.marks u))
