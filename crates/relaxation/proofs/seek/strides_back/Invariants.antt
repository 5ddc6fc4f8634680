-- The first arc of `s` is not behind `i`.
use Prim.Native.Nat.{◌≤◌}
use Rattle.transducer.specs.Format.{decode}
use Rattle.transducer.specs.Accepted.{arcs_below}
use Rattle.relaxation.proofs.seek.strides_back.Given as goal

abbrev pub invariant-loop-i : goal.invariant-loop-i
invariant-loop-i l = (arcs_below l.s (decode l.table).arcs ≤ l.i) × (l.i ≤ l.near)

abbrev pub decreases-loop-i : goal.decreases-loop-i
decreases-loop-i l = l.i
