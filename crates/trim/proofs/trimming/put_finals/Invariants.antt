-- Of the first `i` finals those that are kept stand behind the head.
use Rattle.transducer.specs.Format.{decode}
use Rattle.trim.proofs.KeptWritten.{FinalsKept}
use Rattle.trim.proofs.trimming.put_finals.Given as goal

abbrev pub invariant-loop-i : goal.invariant-loop-i
invariant-loop-i l = FinalsKept (decode l.bytes) l.i l.count l.initial.out l.out
