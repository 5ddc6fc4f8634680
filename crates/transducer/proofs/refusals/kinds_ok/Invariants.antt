-- The kinds from `at` on are good just where those of the whole are, and the framing there is right.
use Rattle.std.proofs.Common.{◌-◌, length}
use Rattle.transducer.proofs.Records.{KindsFrom}
use Rattle.transducer.proofs.refusals.kinds_ok.Given as goal

abbrev pub invariant-loop-at : goal.invariant-loop-at
invariant-loop-at l = KindsFrom l.fn.bytes l.at l.after_arc

abbrev pub decreases-loop-at : goal.decreases-loop-at
decreases-loop-at l = length l.fn.bytes - l.at
