use Rattle.std.proofs.Common.{arith, rules}
use Rattle.transducer.proofs.FirstArcs.{summed_first, summed_next, summed_stop}
use Rattle.transducer.proofs.accepted.raise.Goals as goal

pub loop-s-init : goal.loop-s-init
loop-s-init c t e m = summed_first m

pub loop-s-preserved : goal.loop-s-preserved
loop-s-preserved c t e m = summed_next c.max-most.result (omega arith) (search rules) (c.loop-s.invariant t e m)

pub returns : goal.returns
returns c t e m = summed_stop t (omega (arith, e)) (c.loop-s.invariant t e m)
