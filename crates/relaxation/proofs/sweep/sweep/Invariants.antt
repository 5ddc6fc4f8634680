-- The arcs from `i` on are swept (`Sweeping`). A turn passes over the arcs of its source, or leaves its arc as no better or as better.
use Rattle.transducer.specs.Format.{decode}
use Rattle.relaxation.proofs.InPlace.{Sweeping}
use Rattle.relaxation.proofs.sweep.sweep.Given as goal

abbrev pub invariant-loop-i : goal.invariant-loop-i
invariant-loop-i l = Sweeping (decode l.table) l.plain l.low l.i l.costs l.lens l.again

abbrev pub decreases-loop-i : goal.decreases-loop-i
decreases-loop-i l = l.i
