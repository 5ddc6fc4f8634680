-- The states from `s` on are swept, and no cost of theirs is below `floor` (`Floored`); their arcs are those from `to` on.
use mathlib.Core.Path.{◌≡◌}
use Rattle.transducer.specs.Format.{decode}
use Rattle.transducer.specs.Accepted.{arcs_below}
use Rattle.relaxation.proofs.ByStates.{Floored}
use Rattle.relaxation.proofs.sweep.sweep_states.Given as goal

abbrev pub invariant-loop-s : goal.invariant-loop-s
invariant-loop-s l = Floored (decode l.table) l.s l.floor l.costs l.lens × (l.to ≡ arcs_below l.s (decode l.table).arcs)
