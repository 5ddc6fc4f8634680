-- An arc's record lies within the bytes, and its source is a state (`marking_source`).
use Rattle.std.proofs.Common.{refl, arith}
use Rattle.wire.proofs.Low.{are_bytes}
use Rattle.transducer.proofs.FirstArcs.{opened_small, marking_source, marking_next}
use Rattle.transducer.proofs.accepted.mark_each.Goals as goal

pub overflow_mul-i : goal.overflow_mul-i
overflow_mul-i c = omega (arith, opened_small c.args.bytes.now (are_bytes _ c.type_inv.bytes) c.requires.0)

pub overflow_add-first : goal.overflow_add-first
overflow_add-first c = omega (arith, opened_small c.args.bytes.now (are_bytes _ c.type_inv.bytes) c.requires.0)

pub overflow_add-first-in-loop-i : goal.overflow_add-first-in-loop-i
overflow_add-first-in-loop-i c = omega (arith, opened_small c.args.bytes.now (are_bytes _ c.type_inv.bytes) c.requires.0)

pub u16_at-source-requires : goal.u16_at-source-requires
u16_at-source-requires c = omega (arith, opened_small c.args.bytes.now (are_bytes _ c.type_inv.bytes) c.requires.0)

pub overflow_cast-index : goal.overflow_cast-index
overflow_cast-index c = omega (arith, opened_small c.args.bytes.now (are_bytes _ c.type_inv.bytes) c.requires.0)

pub bounds-index-source : goal.bounds-index-source
bounds-index-source c =
    omega (
      arith,
      marking_source c.args.bytes.now (are_bytes _ c.type_inv.bytes) c.requires.0 {i = c.loop-i.i} c.u16_at-source.result refl (omega arith) c.u16_at-source.ensures,
    )

pub loop-i-preserved : goal.loop-i-preserved
loop-i-preserved c =
    marking_next c.args.bytes.now (are_bytes _ c.type_inv.bytes) c.requires.0 c.u16_at-source.result refl (omega arith) c.u16_at-source.ensures c.loop-i.invariant
