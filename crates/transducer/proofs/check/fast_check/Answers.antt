use Rattle.std.proofs.Common.{arith}
use Rattle.transducer.proofs.FastCheck.{says_unsure, fast_checked_rest}
use Rattle.transducer.proofs.check.fast_check.Goals as goal

pub returns-then-lower-below : goal.returns-then-lower-below
returns-then-lower-below c = let r = c.not_sure.ensures in says_unsure _ _ _ _ _ _ r.0 r.1 r.2 r.3

pub returns-then-lower : goal.returns-then-lower
returns-then-lower c = let r = c.not_sure-then-lower.ensures in says_unsure _ _ _ _ _ _ r.0 r.1 r.2 r.3

pub run_on-run-requires : goal.run_on-run-requires
run_on-run-requires c = (c.requires, fast_checked_rest c.loop-run.invariant.glanced, omega (arith, c.if-lower.false))
