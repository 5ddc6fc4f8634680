-- A store loop, one record a turn: the first `i` records stand from `first` on.
use Rattle.std.proofs.Common.{◌≡◌}
use Rattle.std.proofs.lemmas.List.Edits.{sets}
use Rattle.wire.specs.Bytes.{places}
use Rattle.transducer.specs.Encode.{arc_records}
use Rattle.codec.specs.Entry.{arc_of}
use Rattle.codec.proofs.writing.put_arcs.Given as goal

abbrev pub invariant-loop-i : goal.invariant-loop-i
invariant-loop-i l = l.out ≡ sets l.initial.out l.first (arc_records (places l.i 0 1 (arc_of l.fields l.weights)))
