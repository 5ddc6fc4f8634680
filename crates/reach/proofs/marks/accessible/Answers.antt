use Rattle.std.proofs.Common.{arith}
use Rattle.transducer.specs.Format.{decode}
use Rattle.reach.proofs.Sized.{opened_sized}
use Rattle.reach.proofs.Closure.{accessible_begun, accessible_closure}
use Rattle.reach.proofs.marks.accessible.Goals as goal

pub bounds-marks-start : goal.bounds-marks-start
bounds-marks-start c = omega (arith, opened_sized c.type_inv.table c.requires.0)

pub returns : goal.returns
returns c =
    let size = opened_sized c.type_inv.table c.requires.0 in
    let begun = accessible_begun (decode c.args.table.now) c.args.start c.requires.3 (omega (arith, size.within.starts, size.states)) in
    accessible_closure size.within begun c.settle.ensures
