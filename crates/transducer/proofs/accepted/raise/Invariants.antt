-- Up to `s` the index is as it shall be.
use Rattle.std.proofs.Common.{◌≡◌}
use Rattle.transducer.specs.Format.{Transducer}
use Rattle.transducer.specs.Accepted.{EndsMarked}
use Rattle.transducer.proofs.FirstArcs.{Summed}
use Rattle.transducer.proofs.accepted.raise.Given as goal

abbrev pub invariant-loop-s : goal.invariant-loop-s
invariant-loop-s l = (t : Transducer) → t.states ≡ l.fn.states → EndsMarked t.arcs l.fn.index → Summed t.arcs l.s l.most l.index
