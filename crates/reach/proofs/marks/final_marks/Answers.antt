use Rattle.std.proofs.Common.{refl, arith}
use Rattle.reach.proofs.Sized.{slice_bytes}
use Rattle.reach.proofs.Ends.{final_inside, final_state}
use Rattle.reach.proofs.FinalMarks.{marking_first, marking_next, marking_stop}
use Rattle.reach.proofs.marks.final_marks.Goals as goal

pub loop-i-init : goal.loop-i-init
loop-i-init c = marking_first c.args.table.now

pub overflow_mul-i : goal.overflow_mul-i
overflow_mul-i c =
    let table = c.args.table.now in
    let inside = final_inside table (slice_bytes table c.type_inv.table) c.requires.0 c.loop-i.i (omega arith) refl in
    omega (arith, inside, c.well_formed)

pub overflow_add-i : goal.overflow_add-i
overflow_add-i c =
    let table = c.args.table.now in
    let inside = final_inside table (slice_bytes table c.type_inv.table) c.requires.0 c.loop-i.i (omega arith) refl in
    omega (arith, inside, c.well_formed)

pub load_final-f-requires : goal.load_final-f-requires
load_final-f-requires c =
    let table = c.args.table.now in
    final_inside table (slice_bytes table c.type_inv.table) c.requires.0 c.loop-i.i (omega arith) refl

pub bounds-marks-f : goal.bounds-marks-f
bounds-marks-f c =
    let table = c.args.table.now in
    (final_state table (slice_bytes table c.type_inv.table) c.requires.0 c.loop-i.i c.load_final-f.result (omega arith) refl c.load_final-f.ensures).1

pub loop-i-preserved : goal.loop-i-preserved
loop-i-preserved c =
    let table = c.args.table.now in
    marking_next table (slice_bytes table c.type_inv.table) c.requires.0 c.load_final-f.result (omega arith) c.load_final-f.ensures
    c.loop-i.invariant

pub returns : goal.returns
returns c =
    let table = c.args.table.now in
    marking_stop table (slice_bytes table c.type_inv.table) c.requires.0 (omega arith) c.loop-i.invariant
