-- The invariant, `FindingFinals`: the counts are those of the first `i` finals.
use Rattle.transducer.specs.Format.{decode}
use Rattle.paths.proofs.TopSorted.{FindingFinals}
use Rattle.paths.proofs.sorted.empty_paths.Given as goal

abbrev pub invariant-loop-i : goal.invariant-loop-i
invariant-loop-i l = FindingFinals (decode l.table) l.i l.counts
