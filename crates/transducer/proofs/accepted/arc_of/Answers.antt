use Rattle.std.proofs.Common.{ℕ, ◌+◌, ◌*◌, sym, ap, ◌∙◌, arith}
use Rattle.wire.proofs.Low.{are_bytes}
use Rattle.transducer.specs.Format.{arc_bytes, arc_at}
use Rattle.transducer.proofs.FirstArcs.{opened_small}
use Rattle.transducer.proofs.Offsets.{arc_offset}
use Rattle.transducer.proofs.accepted.arc_of.Goals as goal

pub overflow_mul-i : goal.overflow_mul-i
overflow_mul-i c = omega (arith, opened_small c.args.bytes.now (are_bytes _ c.type_inv.bytes) c.requires.0)

pub overflow_add-first : goal.overflow_add-first
overflow_add-first c = omega (arith, opened_small c.args.bytes.now (are_bytes _ c.type_inv.bytes) c.requires.0)

pub load_arc-requires : goal.load_arc-requires
load_arc-requires c = omega (arith, opened_small c.args.bytes.now (are_bytes _ c.type_inv.bytes) c.requires.0)

pub returns : goal.returns
returns c =
    c.load_arc.ensures
    ∙ ap (λ (first : ℕ). arc_at c.args.bytes.now (first + arc_bytes * c.args.i)) c.requires.0.first_is
    ∙ sym (arc_offset c.args.bytes.now (are_bytes _ c.type_inv.bytes) c.requires.0.accepted c.args.i c.requires.1)
