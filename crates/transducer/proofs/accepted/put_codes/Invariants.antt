-- The codes of the first `i` finals are stored. Final states rise, so none is stored twice.
use Rattle.transducer.proofs.Finals.{Coded}
use Rattle.transducer.proofs.accepted.put_codes.Given as goal

abbrev pub invariant-loop-i : goal.invariant-loop-i
invariant-loop-i l = Coded l.fn.bytes l.i l.codes
