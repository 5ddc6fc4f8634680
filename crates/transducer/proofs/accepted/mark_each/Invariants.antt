-- The first `i` arcs are marked.
use Rattle.std.proofs.Common.{take}
use Rattle.transducer.specs.Format.{decode}
use Rattle.transducer.specs.Accepted.{EndsMarked}
use Rattle.transducer.proofs.accepted.mark_each.Given as goal

abbrev pub invariant-loop-i : goal.invariant-loop-i
invariant-loop-i l = EndsMarked (take l.i (decode l.fn.bytes).arcs) l.index
