use Rattle.reach.proofs.Spreading.{closure_after}
use Rattle.reach.proofs.marks.settle_chained.Goals as goal

pub returns : goal.returns
returns c = closure_after c.sweep.ensures.wider c.spread_chained.ensures
