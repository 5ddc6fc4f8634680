-- One mark for a block of one source (`marking_block`), or one for each arc.
use Rattle.std.proofs.Common.{refl, arith}
use Rattle.wire.proofs.Low.{are_bytes}
use Rattle.transducer.proofs.FirstArcs.{opened_small, marking_source, marking_block}
use Rattle.transducer.proofs.accepted.mark_block.Goals as goal

pub overflow_mul-place : goal.overflow_mul-place
overflow_mul-place c = omega (arith, opened_small c.args.bytes.now (are_bytes _ c.type_inv.bytes) c.requires.0)

pub overflow_add-place : goal.overflow_add-place
overflow_add-place c = omega (arith, opened_small c.args.bytes.now (are_bytes _ c.type_inv.bytes) c.requires.0)

pub overflow_add-place-2 : goal.overflow_add-place-2
overflow_add-place-2 c = omega (arith, opened_small c.args.bytes.now (are_bytes _ c.type_inv.bytes) c.requires.0)

pub u16_at-source-requires : goal.u16_at-source-requires
u16_at-source-requires c = omega (arith, opened_small c.args.bytes.now (are_bytes _ c.type_inv.bytes) c.requires.0)

pub overflow_add-place-3 : goal.overflow_add-place-3
overflow_add-place-3 c = omega (arith, opened_small c.args.bytes.now (are_bytes _ c.type_inv.bytes) c.requires.0)

pub u16_at-requires : goal.u16_at-requires
u16_at-requires c = omega (arith, opened_small c.args.bytes.now (are_bytes _ c.type_inv.bytes) c.requires.0)

pub overflow_add-from : goal.overflow_add-from
overflow_add-from c = omega (arith, opened_small c.args.bytes.now (are_bytes _ c.type_inv.bytes) c.requires.0)

pub overflow_add-index : goal.overflow_add-index
overflow_add-index c = omega (arith, opened_small c.args.bytes.now (are_bytes _ c.type_inv.bytes) c.requires.0)

pub overflow_cast-index : goal.overflow_cast-index
overflow_cast-index c = omega (arith, opened_small c.args.bytes.now (are_bytes _ c.type_inv.bytes) c.requires.0)

pub bounds-index-source : goal.bounds-index-source
bounds-index-source c =
    omega (arith, marking_source c.args.bytes.now (are_bytes _ c.type_inv.bytes) c.requires.0 {i = c.args.from} c.u16_at-source.result refl (omega arith) c.u16_at-source.ensures)

pub returns : goal.returns
returns c =
    marking_block c.args.bytes.now (are_bytes _ c.type_inv.bytes) c.requires.0 c.args.from c.u16_at-source.result refl c.requires.1 c.u16_at-source.ensures
    (omega (arith, c.u16_at.ensures)) c.requires.2
