use Rattle.std.proofs.Common.{arith}
use Rattle.transducer.specs.Format.{decode}
use Rattle.reach.proofs.Sized.{slice_bytes}
use Rattle.reach.proofs.Spreading.{widened_none, widened_twice}
use Rattle.reach.proofs.Stacked.{waiting_less, waiting_pop, waiting_none}
use Rattle.reach.proofs.stack.drain_stack.Goals as goal

pub loop-top-init : goal.loop-top-init
loop-top-init c = (widened_none (decode c.args.table.now) c.args.back c.args.marks.now, c.requires.2)

pub pop_state-top-requires : goal.pop_state-top-requires
pop_state-top-requires c =
    (slice_bytes c.args.table.now c.type_inv.table, c.requires.0, c.requires.1, waiting_pop c.loop-top-test.true c.loop-top.invariant.1)

pub loop-top-smaller : goal.loop-top-smaller
loop-top-smaller c = waiting_less c.loop-top-test.true c.pop_state-top.ensures

pub loop-top-preserved : goal.loop-top-preserved
loop-top-preserved c = (widened_twice c.loop-top.invariant.0 c.pop_state-top.ensures.wider, c.pop_state-top.ensures.waiting)

pub returns : goal.returns
returns c = record { wider = c.loop-top.invariant.0; closed = waiting_none (omega arith) c.loop-top.invariant.1 }
