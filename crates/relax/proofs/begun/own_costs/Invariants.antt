-- A store loop by state: the weights of the first `i` finals are stored (`Owned`). Final states rise, so none is stored twice.
use Rattle.relax.proofs.EmptyPaths.{Owned}
use Rattle.relax.proofs.begun.own_costs.Given as goal

abbrev pub invariant-loop-i : goal.invariant-loop-i
invariant-loop-i l = Owned l.table l.i l.costs
