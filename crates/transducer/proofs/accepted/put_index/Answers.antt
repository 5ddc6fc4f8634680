use Rattle.std.proofs.Common.{sym, arith}
use Rattle.wire.proofs.Low.{are_bytes}
use Rattle.transducer.specs.Format.{decode}
use Rattle.transducer.proofs.Offsets.{decode_states, accepted_within}
use Rattle.transducer.proofs.FirstArcs.{marked_none, marked_all}
use Rattle.transducer.proofs.accepted.put_index.Goals as goal

pub loop-block-init : goal.loop-block-init
loop-block-init c = rw c.requires.3 marked_none

pub raise-requires : goal.raise-requires
raise-requires c =
    let bs = c.args.bytes.now in
    let within = accepted_within bs (are_bytes _ c.type_inv.bytes) c.requires.0.accepted in
    (omega (arith, within.states, decode_states bs (are_bytes _ c.type_inv.bytes) c.requires.0.accepted), c.mark_each.ensures.long)

pub returns : goal.returns
returns c =
    let t = decode c.args.bytes.now in
    c.raise.ensures t (sym c.requires.1) (marked_all t.arcs c.requires.2 c.mark_each.ensures)
