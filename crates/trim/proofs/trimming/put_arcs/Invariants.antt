-- Of the first `i` arcs those that are kept stand from `at` on, and their numbers at the front of the origins.
use Rattle.transducer.specs.Format.{decode}
use Rattle.trim.specs.Trim.{arc_useful, moved}
use Rattle.trim.proofs.Passing.{PassingSoFar}
use Rattle.trim.proofs.trimming.put_arcs.Given as goal

abbrev pub invariant-loop-i : goal.invariant-loop-i
invariant-loop-i l =
    PassingSoFar (arc_useful (decode l.bytes)) (moved (decode l.bytes)) (decode l.bytes).arcs l.at l.i l.count l.initial.out l.out l.initial.origins l.origins
