-- The arcs from `i` on are relaxed (`Going`).
use Rattle.transducer.specs.Format.{decode}
use Rattle.relaxation.proofs.ByStates.{Going}
use Rattle.relaxation.proofs.sweep.sweep_state.Given as goal

abbrev pub invariant-loop-i : goal.invariant-loop-i
invariant-loop-i l = Going (decode l.table) l.s l.from l.to l.bar l.initial.costs l.i l.costs l.lens
