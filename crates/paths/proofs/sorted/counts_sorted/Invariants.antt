-- The invariant, `Passed`: from arc `i` on the states are topologically sorted, and the counts are sums over these arcs.
use Rattle.transducer.specs.Format.{decode}
use Rattle.paths.proofs.TopSorted.{Passed}
use Rattle.paths.proofs.sorted.counts_sorted.Given as goal

abbrev pub invariant-loop-i : goal.invariant-loop-i
invariant-loop-i l = Passed (decode l.table) l.i l.counts
