-- The invariant, `DeadBelow`: the dead states below `s` are marked.
use Rattle.capped.proofs.MarksInPlace.{DeadBelow}
use Rattle.capped.proofs.marks.mark_dead.Given as goal

abbrev pub invariant-loop-s : goal.invariant-loop-s
invariant-loop-s l = DeadBelow l.s l.live l.fn.marks l.marks
