use Rattle.reach.proofs.Sized.{opened_sized}
use Rattle.reach.proofs.Closure.{coaccessible_closure}
use Rattle.reach.proofs.marks.coaccessible_chained.Goals as goal

pub returns : goal.returns
returns c =
    coaccessible_closure (opened_sized c.type_inv.table c.requires.0).within c.final_marks-marks.ensures c.settle_chained.ensures
