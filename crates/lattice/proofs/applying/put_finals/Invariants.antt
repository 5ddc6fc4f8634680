-- A store loop over the keys, a record for each that is final. The invariant, `Putting`: the finals of the first `s` keys are written and counted.
use Rattle.lattice.proofs.KeyFinals.{Putting}
use Rattle.lattice.proofs.applying.put_finals.Given as goal

abbrev pub invariant-loop-s : goal.invariant-loop-s
invariant-loop-s l = Putting l.codes l.last l.states l.count l.initial.table l.table l.finals l.s
