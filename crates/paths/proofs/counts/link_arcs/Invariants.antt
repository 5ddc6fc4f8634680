-- The invariant: the first `i` arcs are in chains (`Chaining`) and counted at their sources (`OpenedArcs`), no state being marked.
use Rattle.std.proofs.Common.{true, false, replicate}
use Rattle.transducer.specs.Format.{max_states, decode}
use Rattle.reach.proofs.Chains.{Chaining}
use Rattle.paths.specs.Counting.{by_marks, OpenedArcs}
use Rattle.paths.proofs.counts.link_arcs.Given as goal

abbrev pub invariant-loop-i : goal.invariant-loop-i
invariant-loop-i l = record {
  chained : Chaining (decode l.table) true l.i l.heads l.next;
  opened : OpenedArcs (decode l.table) (by_marks (decode l.table) (replicate max_states false)) l.i l.pending;
}
