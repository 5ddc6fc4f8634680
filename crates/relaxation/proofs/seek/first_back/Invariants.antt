-- From `i` on all arcs are of state `s` or a higher one.
use Prim.Native.Nat.{◌≤◌}
use Rattle.transducer.specs.Format.{decode}
use Rattle.transducer.specs.Accepted.{arcs_below}
use Rattle.relaxation.proofs.seek.first_back.Given as goal

abbrev pub invariant-loop-i : goal.invariant-loop-i
invariant-loop-i l = arcs_below l.s (decode l.table).arcs ≤ l.i
