use Rattle.std.proofs.Common.{arith, ◌<◌, true, false}
use Rattle.transducer.specs.Format.{decode}
use Rattle.capped.specs.Marks.{marked}
use Rattle.paths.specs.Counting.{by_marks}
use Rattle.paths.proofs.Ready.{few_states, few_arcs}
use Rattle.paths.proofs.Counting.{opened_first, opened_kept, opened_next, opened_few, by_target_mark}
use Rattle.paths.proofs.counts.count_open.Goals as goal
use Rattle.paths.proofs.counts.count_open.Goals.{then-not-marks-to, else-not-marks-to}

pub loop-i-init : goal.loop-i-init
loop-i-init c = rw c.requires.2 (opened_first (decode c.args.table.now) (by_marks (decode c.args.table.now) c.args.marks.now))

pub overflow_add-pending : goal.overflow_add-pending
overflow_add-pending c =
    let t = decode c.args.table.now in
    let low : c.source-s.result < 1024 = omega (arith, few_states c.args.table.now c.type_inv.table c.requires.0.accepted) in
    omega (
      arith,
      few_arcs c.args.table.now c.type_inv.table c.requires.0.accepted,
      opened_few t (by_marks t c.args.marks.now) c.loop-i.i c.loop-i.pending c.loop-i.invariant c.source-s.result low,
    )

pub loop-i-preserved : goal.loop-i-preserved
unfolding marked
loop-i-preserved c =
    let t = decode c.args.table.now in
    let done = by_marks t c.args.marks.now in
    let low : c.source-s.result < 1024 = omega (arith, few_states c.args.table.now c.type_inv.table c.requires.0.accepted) in
    elim c.if-not-marks-to.branch [
      | then-not-marks-to w ↦
          rw w.pending-is
          (opened_next t done c.loop-i.i c.loop-i.pending c.source-s.result c.loop-i.invariant
          (by_target_mark t c.args.marks.now c.loop-i.i c.target-to.result false c.target-to.ensures.0 w.if-not-marks-to.true) c.source-s.ensures.0 low)
      | else-not-marks-to w ↦
          rw w.pending-is
          (opened_kept t done c.loop-i.i c.loop-i.pending c.loop-i.invariant
          (by_target_mark t c.args.marks.now c.loop-i.i c.target-to.result true c.target-to.ensures.0 w.if-not-marks-to.false))
    ]
