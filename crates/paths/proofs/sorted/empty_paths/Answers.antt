use Rattle.std.proofs.Common.{arith}
use Rattle.wire.specs.Bytes.{Bytes}
use Rattle.transducer.specs.Format.{decode}
use Rattle.transducer.proofs.Offsets.{length_accepted, length_finals, accepted_within}
use Rattle.paths.proofs.TopSorted.{finals_first, finals_next, finals_stop, final_loaded}
use Rattle.paths.proofs.sorted.empty_paths.Goals as goal

pub loop-i-init : goal.loop-i-init
loop-i-init c = finals_first (decode c.args.table.now)

pub arcs_at-requires : goal.arcs_at-requires
arcs_at-requires c =
    let head = accepted_within c.args.table.now (λ i. omega (arith, c.type_inv.table i)) c.requires.0 in
    omega (arith, head.finals, head.states)

pub load_final-f-requires : goal.load_final-f-requires
load_final-f-requires c = omega (arith, length_accepted c.args.table.now (λ i. omega (arith, c.type_inv.table i)) c.requires.0)

pub bounds-counts-f : goal.bounds-counts-f
bounds-counts-f c =
    (final_loaded c.args.table.now (λ i. omega (arith, c.type_inv.table i)) c.requires.0 c.loop-i.i c.arcs_at.result c.load_final-f.result (omega arith)
    c.arcs_at.ensures c.load_final-f.ensures).1

pub loop-i-preserved : goal.loop-i-preserved
loop-i-preserved c =
    let bs = c.args.table.now in
    let bytes : Bytes bs = λ i. omega (arith, c.type_inv.table i) in
    let found = final_loaded bs bytes c.requires.0 c.loop-i.i c.arcs_at.result c.load_final-f.result (omega arith) c.arcs_at.ensures c.load_final-f.ensures in
    finals_next (decode bs) c.loop-i.i c.loop-i.counts c.load_final-f.result (omega (arith, length_finals bs bytes c.requires.0)) found.0 found.1
    c.loop-i.invariant

pub returns : goal.returns
returns c =
    let bs = c.args.table.now in
    let bytes : Bytes bs = λ i. omega (arith, c.type_inv.table i) in
    finals_stop (decode bs) (decode bs).states c.loop-i.i c.loop-i.counts (omega (arith, length_finals bs bytes c.requires.0)) c.loop-i.invariant
