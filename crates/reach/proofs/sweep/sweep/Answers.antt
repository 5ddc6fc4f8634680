use Rattle.std.proofs.Common.{sym, ◌∙◌, arith}
use Rattle.transducer.specs.Format.{decode}
use Rattle.reach.proofs.Sized.{slice_bytes, opened_sized}
use Rattle.reach.proofs.Ends.{sources_order}
use Rattle.reach.proofs.Sweeping.{sweeping_first, sweeping_next, sweeping_stop, swept_more}
use Rattle.reach.proofs.sweep.sweep.Goals as goal

pub loop-k-init : goal.loop-k-init
loop-k-init c = sweeping_first (decode c.args.table.now) c.args.back c.args.arcs c.args.marks.now

pub waits-requires : goal.waits-requires
waits-requires c =
    let size = opened_sized c.type_inv.table c.requires.0 in
    (omega (arith, size.states), omega (arith, size.states), c.loop-k.invariant.wider.long ∙ c.requires.2)

pub returns-then-waits : goal.returns-then-waits
returns-then-waits c = swept_more c.loop-k.invariant.wider

pub spread-requires : goal.spread-requires
spread-requires c =
    let size = opened_sized c.type_inv.table c.requires.0 in
    (omega (arith, size.states), omega (arith, size.states), c.loop-k.invariant.wider.long ∙ c.requires.2)

pub loop-k-preserved : goal.loop-k-preserved
loop-k-preserved c =
    let table = c.args.table.now in
    let order = sources_order table (slice_bytes table c.type_inv.table) c.requires.0.accepted in
    sweeping_next c.args.back c.arc_at_turn-i.result order c.arc_at_turn-i.ensures c.loop-k-test.true c.requires.1 c.from_end-from.ensures.0
    c.to_end-to.ensures.0 (sym c.waits.ensures ∙ c.if-waits.false) c.loop-k.invariant c.spread.ensures

pub returns : goal.returns
returns c = sweeping_stop c.args.back c.requires.1 (omega arith) c.loop-k.invariant
