-- The invariant: the arcs before `i` are not the one sought (`Seeking`).
use Rattle.transducer.specs.Format.{decode}
use Rattle.relax.specs.Tentative.{cost_at, by_state}
use Rattle.shortest.proofs.Tight.{Seeking}
use Rattle.shortest.proofs.walk.first_giving.Given as goal

abbrev pub invariant-loop-i : goal.invariant-loop-i
invariant-loop-i l = Seeking (decode l.table) (cost_at l.costs) (by_state l.lens) l.s l.from l.to l.i
