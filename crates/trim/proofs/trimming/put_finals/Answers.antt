use Rattle.std.proofs.Common.{arith}
use Rattle.transducer.proofs.Offsets.{length_finals, accepted_within}
use Rattle.reach.proofs.Sized.{slice_bytes}
use Rattle.reach.proofs.Ends.{final_inside, final_read}
use Rattle.trim.proofs.Running.{index_no, index_yes, index_final}
use Rattle.trim.proofs.KeptWritten.{finals_first, finals_skipped, finals_more, finals_stop}
use Rattle.trim.proofs.trimming.put_finals.Goals as goal

pub loop-i-init : goal.loop-i-init
loop-i-init c = finals_first c.args.out.now

pub arcs_at-requires : goal.arcs_at-requires
arcs_at-requires c =
    let bs = c.args.bytes.now in
    let head = accepted_within bs (slice_bytes bs c.type_inv.bytes) c.requires.0 in
    omega (arith, head.finals, head.states)

pub load_final-f-requires : goal.load_final-f-requires
load_final-f-requires c =
    let bs = c.args.bytes.now in
    final_inside bs (slice_bytes bs c.type_inv.bytes) c.requires.0 c.loop-i.i (omega arith) c.arcs_at.ensures

pub bounds-index-s : goal.bounds-index-s
bounds-index-s c =
    omega (arith, final_read c.type_inv.bytes c.requires.0 c.loop-i.i c.load_final-f.result (omega arith) c.arcs_at.ensures c.load_final-f.ensures)

pub bounds-index-s-in-loop-i : goal.bounds-index-s-in-loop-i
bounds-index-s-in-loop-i c =
    omega (arith, final_read c.type_inv.bytes c.requires.0 c.loop-i.i c.load_final-f.result (omega arith) c.arcs_at.ensures c.load_final-f.ensures)

pub loop-i-preserved-then-index-s : goal.loop-i-preserved-then-index-s
loop-i-preserved-then-index-s c =
    let f = c.load_final-f.result in
    let read = final_read c.type_inv.bytes c.requires.0 c.loop-i.i f (omega arith) c.arcs_at.ensures c.load_final-f.ensures in
    finals_skipped f read.below read.here c.loop-i.invariant (index_no c.requires.2 f.state read.state_below c.if-index-s.true)

pub arcs_at-requires-in-loop-i : goal.arcs_at-requires-in-loop-i
arcs_at-requires-in-loop-i c =
    let bs = c.args.bytes.now in
    let head = accepted_within bs (slice_bytes bs c.type_inv.bytes) c.requires.0 in
    omega (arith, head.finals, head.states)

pub loop-i-preserved : goal.loop-i-preserved
loop-i-preserved c =
    let f = c.load_final-f.result in
    let read = final_read c.type_inv.bytes c.requires.0 c.loop-i.i f (omega arith) c.arcs_at.ensures c.load_final-f.ensures in
    finals_more f read.below read.here c.loop-i.invariant _ (index_yes c.requires.2 f.state read.state_below c.if-index-s.false)
    (rw read.weight_back (index_final c.requires.2 f read.state_below)) c.put_final.auto.out c.arcs_at-in-loop-i.ensures c.put_final.ensures

pub returns : goal.returns
returns c =
    let bs = c.args.bytes.now in
    finals_stop (omega (arith, length_finals bs (slice_bytes bs c.type_inv.bytes) c.requires.0)) c.loop-i.invariant
