-- The first `i` arcs are written.
use Rattle.transducer.specs.Format.{decode}
use Rattle.derived.proofs.InvertedWritten.{Inverting}
use Rattle.derived.proofs.invert.put_inverted.Given as goal

abbrev pub invariant-loop-i : goal.invariant-loop-i
invariant-loop-i l = Inverting (decode l.table).arcs l.first l.i l.initial.out l.out
