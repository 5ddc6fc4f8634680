-- The invariant, `EmptyPaths`: the counts of the states below `s` are stored.
use Rattle.transducer.specs.Format.{decode}
use Rattle.paths.specs.TopSorted.{EmptyPaths}
use Rattle.paths.proofs.sorted.empty_by_codes.Given as goal

abbrev pub invariant-loop-s : goal.invariant-loop-s
invariant-loop-s l = EmptyPaths (decode l.table) l.s l.counts
