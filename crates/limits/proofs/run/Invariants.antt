-- Each case moves the place on, so the measure is what is left of the list; nothing else has to hold.
use Rattle.std.proofs.Common.{length, ◌-◌}
use Rattle.limits.proofs.run.Given as goal

abbrev pub decreases-loop-at : goal.decreases-loop-at
decreases-loop-at g l = length l.cases - l.at
