use Rattle.std.proofs.Common.{arith}
use Rattle.transducer.specs.Format.{decode}
use Rattle.reach.proofs.Sized.{opened_sized}
use Rattle.reach.proofs.Chains.{chaining_first, chaining_next, chaining_stop}
use Rattle.reach.proofs.stack.chain.Goals as goal

pub loop-i-init : goal.loop-i-init
loop-i-init c = rw c.requires.2 (chaining_first (decode c.args.table.now) c.args.back c.args.next.now c.requires.3)

pub offset_bounds-heads-from : goal.offset_bounds-heads-from
offset_bounds-heads-from c = omega (arith, opened_sized c.type_inv.table c.requires.0)

pub bounds-heads-from : goal.bounds-heads-from
bounds-heads-from c = omega (arith, opened_sized c.type_inv.table c.requires.0)

pub offset_bounds-next-i : goal.offset_bounds-next-i
offset_bounds-next-i c = omega (arith, opened_sized c.type_inv.table c.requires.0)

pub bounds-next-i : goal.bounds-next-i
bounds-next-i c = omega (arith, opened_sized c.type_inv.table c.requires.0)

pub cell_of-requires : goal.cell_of-requires
cell_of-requires c = let size = opened_sized c.type_inv.table c.requires.0 in (omega (arith, size.states), omega (arith, size.arcs))

pub offset_bounds-heads-from-in-loop-i : goal.offset_bounds-heads-from-in-loop-i
offset_bounds-heads-from-in-loop-i c = omega (arith, opened_sized c.type_inv.table c.requires.0)

pub bounds-heads-from-in-loop-i : goal.bounds-heads-from-in-loop-i
bounds-heads-from-in-loop-i c = omega (arith, opened_sized c.type_inv.table c.requires.0)

pub loop-i-preserved : goal.loop-i-preserved
loop-i-preserved c =
    let size = opened_sized c.type_inv.table c.requires.0 in
    let from = c.from_end-from in
    rw c.cell_of.ensures (chaining_next from.result c.to_end-to.result (omega (arith, size.arcs)) (omega (arith, size.states)) from.ensures.0
    c.to_end-to.ensures.0 c.loop-i.invariant)

pub returns : goal.returns
returns c = chaining_stop (omega arith) c.loop-i.invariant
