-- What a run leaves, with how much the least weight so far is below zero. That rises with each further run.
use Rattle.std.proofs.Common.{◌-◌}
use Rattle.transducer.specs.Format.{weight_limit}
use Rattle.transducer.proofs.FastCheck.{Looking}
use Rattle.transducer.proofs.check.fast_check.Given as goal

abbrev pub invariant-loop-run : goal.invariant-loop-run
invariant-loop-run l = Looking l.fn.bytes l.fn.at l.fn.count l.fn.n l.each l.fn.floor l.run.last l.run.any l.run.all l.below l.run.place

abbrev pub decreases-loop-run : goal.decreases-loop-run
decreases-loop-run l = weight_limit - l.below
