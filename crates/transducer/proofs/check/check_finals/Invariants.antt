-- What is left to test, from the tests so far, gives the whole.
use Rattle.std.proofs.Common.{◌+◌, ◌*◌}
use Rattle.wire.specs.Bytes.{four}
use Rattle.transducer.specs.Format.{final_at}
use Rattle.transducer.specs.Check.{finals_checked}
use Rattle.transducer.proofs.Checked.{Left}
use Rattle.transducer.proofs.check.check_finals.Given as goal

abbrev pub invariant-loop-i : goal.invariant-loop-i
invariant-loop-i l =
    Left (λ k p. finals_checked k p 10 l.fn.n (four l.fn.bytes) (final_at l.fn.bytes)) l.fn.count l.fn.at 10 l.fn.c l.i (l.fn.at + 10 * l.i) l.checks
