-- The finals of the first `s` keys are written and counted.
use Rattle.explore.proofs.PutFinals.{Finishing}
use Rattle.compose.specs.Finished.{key_final, key_weight}
use Rattle.compose.proofs.finish.put_finals.Given as goal

abbrev pub invariant-loop-s : goal.invariant-loop-s
invariant-loop-s l = Finishing (key_final l.lcodes l.rcodes) (key_weight l.lcodes l.rcodes) l.states l.count l.initial.table l.table l.finals l.overflow l.s
