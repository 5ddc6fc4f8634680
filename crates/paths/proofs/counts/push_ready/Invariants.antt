-- The invariant, `Stacked`: of the states below `s` those that are not marked and have no open arc are on the stack.
use Rattle.paths.specs.Counting.{Stacked}
use Rattle.paths.proofs.counts.push_ready.Given as goal

abbrev pub invariant-loop-s : goal.invariant-loop-s
invariant-loop-s l = Stacked l.s l.marks l.pending l.stack l.top
