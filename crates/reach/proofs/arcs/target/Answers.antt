use Rattle.std.proofs.Common.{◌∙◌, arith}
use Rattle.reach.proofs.Ends.{arc_read}
use Rattle.reach.proofs.arcs.target.Goals as goal

pub overflow_mul-i : goal.overflow_mul-i
overflow_mul-i c = omega (arith, arc_read _ _ c.args.i c.type_inv.table c.requires.0 c.requires.1, c.well_formed)

pub overflow_add-first : goal.overflow_add-first
overflow_add-first c = omega (arith, arc_read _ _ c.args.i c.type_inv.table c.requires.0 c.requires.1, c.well_formed)

pub overflow_add-first-2 : goal.overflow_add-first-2
overflow_add-first-2 c = omega (arith, arc_read _ _ c.args.i c.type_inv.table c.requires.0 c.requires.1, c.well_formed)

pub u16_at-requires : goal.u16_at-requires
u16_at-requires c = omega (arith, arc_read _ _ c.args.i c.type_inv.table c.requires.0 c.requires.1)

pub returns : goal.returns
returns c =
    let read = arc_read _ _ c.args.i c.type_inv.table c.requires.0 c.requires.1 in
    (c.u16_at.ensures ∙ read.target_is, omega (arith, c.u16_at.ensures, read.target_is, read.target_below))
