use Rattle.std.proofs.Common.{arith, refl}
use Rattle.reach.proofs.Sized.{slice_bytes, sized}
use Rattle.reach.proofs.Stacked.{waiting_first}
use Rattle.reach.proofs.stack.spread_chained.Goals as goal

pub push_marked-count-requires : goal.push_marked-count-requires
push_marked-count-requires c =
    let table = c.args.table.now in
    let size = sized table (slice_bytes table c.type_inv.table) c.requires.0 in
    (omega (arith, size.states), c.requires.3, refl)

pub drain_stack-requires : goal.drain_stack-requires
drain_stack-requires c =
    let table = c.args.table.now in
    let size = sized table (slice_bytes table c.type_inv.table) c.requires.0 in
    (c.requires.0, c.requires.2, waiting_first size c.args.back c.requires.1 c.requires.3 c.push_marked-count.ensures)
