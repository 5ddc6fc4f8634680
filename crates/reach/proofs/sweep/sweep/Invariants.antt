-- Marks have spread along the arcs taken in the first `k` turns, and none of these waits.
use Rattle.transducer.specs.Format.{decode}
use Rattle.reach.proofs.Sweeping.{Sweeping, low_at, high_at}
use Rattle.reach.proofs.sweep.sweep.Given as goal

abbrev pub invariant-loop-k : goal.invariant-loop-k
invariant-loop-k l = Sweeping (decode l.table) l.back (low_at l.back l.arcs l.k) (high_at l.back l.arcs l.k) l.initial.marks l.marks
