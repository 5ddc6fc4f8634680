-- What is left to test, from the tests so far, gives the whole.
use Rattle.std.proofs.Common.{◌+◌, ◌*◌}
use Rattle.wire.specs.Bytes.{four}
use Rattle.transducer.specs.Format.{arc_at}
use Rattle.transducer.specs.Check.{arcs_checked}
use Rattle.transducer.proofs.Checked.{Left}
use Rattle.transducer.proofs.check.check_each_arc.Given as goal

abbrev pub invariant-loop-i : goal.invariant-loop-i
invariant-loop-i l =
    Left (λ k p. arcs_checked k p 16 l.fn.n (four l.fn.bytes) (arc_at l.fn.bytes)) l.fn.count l.fn.at 16 l.fn.c l.i (l.fn.at + 16 * l.i) l.checks
