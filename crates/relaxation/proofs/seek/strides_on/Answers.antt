use native.Mathlib.Omega.{arith}
use Rattle.relaxation.proofs.Opened.{opened}
use Rattle.relaxation.proofs.seek.strides_on.Goals as goal

pub overflow_add-i : goal.overflow_add-i
overflow_add-i c =
    let size = opened c.args.table.now c.type_inv.table c.requires.0 in
    omega (arith, size.arcs, c.requires.1, c.loop-i.invariant)
