-- A store loop, four stores a turn: the fields of the first `i` arcs stand at the front, and what lies behind is as it was.
-- The order of the fields is the definition's (`arc_fields`): nothing here repeats it.
use Rattle.codec.proofs.Copy.{FieldsCopied}
use Rattle.codec.proofs.reading.copy_fields.Given as goal

abbrev pub invariant-loop-i : goal.invariant-loop-i
invariant-loop-i l = FieldsCopied l.bytes l.at l.initial.out l.out l.i
