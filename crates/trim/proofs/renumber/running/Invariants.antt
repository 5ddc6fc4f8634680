-- The numbers up to `s` are stored, and `next` is the last.
use Rattle.trim.proofs.Running.{has_both, Running}
use Rattle.trim.proofs.renumber.running.Given as goal

abbrev pub invariant-loop-s : goal.invariant-loop-s
invariant-loop-s l = Running (has_both l.fn.accessible l.fn.coaccessible) l.s l.next l.index
