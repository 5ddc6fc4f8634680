-- Of the first `i` arcs those that pass stand from `at` on, and their numbers at the front.
use Rattle.transducer.specs.Format.{decode}
use Rattle.trim.proofs.Passing.{PassingSoFar}
use Rattle.derived.specs.Restricted.{unchanged, within_bound}
use Rattle.derived.proofs.restrict.put_within.Given as goal

abbrev pub invariant-loop-i : goal.invariant-loop-i
invariant-loop-i l =
    PassingSoFar (within_bound l.coming l.rest l.fn.most) unchanged (decode l.table).arcs l.at l.i l.count l.initial.out l.out l.initial.numbers l.numbers
