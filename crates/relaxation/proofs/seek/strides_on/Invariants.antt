-- `i` is not behind the last arc.
use Prim.Native.Nat.{◌-◌, ◌≤◌}
use Rattle.relaxation.proofs.seek.strides_on.Given as goal

abbrev pub invariant-loop-i : goal.invariant-loop-i
invariant-loop-i l = l.i ≤ l.arcs

abbrev pub decreases-loop-i : goal.decreases-loop-i
decreases-loop-i l = l.arcs - l.i
