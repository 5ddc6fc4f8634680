-- The invariant: the costs of the states below `s` are copied.
use Rattle.distance.specs.Entry.{Copied}
use Rattle.distance.proofs.cells.copy.Given as goal

abbrev pub invariant-loop-s : goal.invariant-loop-s
invariant-loop-s l = Copied l.s l.costs l.fn.cells l.cells
