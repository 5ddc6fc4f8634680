use Rattle.std.proofs.Common.{length, ◌-◌}
use Rattle.transducer.specs.Format.{decode}
use Rattle.paths.proofs.Steps.{Walked, Chosen}
use Rattle.paths.proofs.path.nth_arcs.Given as goal

abbrev pub invariant-loop-left-2 : goal.invariant-loop-left-2
invariant-loop-left-2 l = Chosen (decode l.table) l.k l.arcs l.s l.left l.n l.i

abbrev pub decreases-loop-left-2 : goal.decreases-loop-left-2
decreases-loop-left-2 l = length (decode l.table).arcs - l.i

abbrev pub invariant-loop-left : goal.invariant-loop-left
invariant-loop-left l = Walked (decode l.table) l.k (length l.fn.arcs) l.arcs l.s l.left l.n

abbrev pub decreases-loop-left : goal.decreases-loop-left
decreases-loop-left l = 1024 - l.n
