-- The marks are those of the first `i` finals.
use Rattle.reach.proofs.FinalMarks.{Marking}
use Rattle.reach.proofs.marks.final_marks.Given as goal

abbrev pub invariant-loop-i : goal.invariant-loop-i
invariant-loop-i l = Marking l.table l.i l.marks
