-- A store loop, one record a turn: the first `i` records stand behind the head.
use Rattle.std.proofs.Common.{◌≡◌}
use Rattle.std.proofs.lemmas.List.Edits.{sets}
use Rattle.wire.specs.Bytes.{places}
use Rattle.transducer.specs.Format.{head_bytes}
use Rattle.transducer.specs.Encode.{final_records}
use Rattle.codec.specs.Entry.{final_of}
use Rattle.codec.proofs.writing.put_finals.Given as goal

abbrev pub invariant-loop-i : goal.invariant-loop-i
invariant-loop-i l = l.out ≡ sets l.initial.out head_bytes (final_records (places l.i 0 1 (final_of l.states l.weights)))
