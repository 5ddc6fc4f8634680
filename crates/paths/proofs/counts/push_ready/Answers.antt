use Rattle.std.proofs.Common.{arith}
use Rattle.wire.proofs.Bool.{clash}
use Rattle.capped.specs.Marks.{marked}
use Rattle.paths.proofs.Counting.{stacked_first, stacked_kept, stacked_push}
use Rattle.paths.proofs.counts.push_ready.Goals as goal
use Rattle.paths.proofs.counts.push_ready.Goals.{then-not-marks-s+then-pending-s-eq0, else-not-marks-s, else-not-marks-s-via-then-not-marks-s+else-pending-s-eq0, else-not-marks-s-via-else-not-marks-s}

pub loop-s-init : goal.loop-s-init
loop-s-init c = stacked_first c.args.marks.now c.args.pending.now c.args.stack.now c.requires.1

pub loop-s-preserved : goal.loop-s-preserved
unfolding marked
loop-s-preserved c =
    let a = c.args in
    let l = c.loop-s in
    elim c.if-not-marks-s.branch [
      | then-not-marks-s+then-pending-s-eq0 w ↦
          rw (w.stack-is, w.top-is)
          (stacked_push l.s a.marks.now a.pending.now l.stack l.top l.invariant (omega arith) w.if-not-marks-s.true w.if-pending-s-eq0.true)
      | else-not-marks-s w ↦
          rw (w.stack-is, w.top-is) (stacked_kept l.s a.marks.now a.pending.now l.stack l.top l.invariant (elim w.else-not-marks-s.branch [
            | else-not-marks-s-via-then-not-marks-s+else-pending-s-eq0 w' ↦ λ _ e. w'.if-pending-s-eq0.false e
            | else-not-marks-s-via-else-not-marks-s w' ↦ λ m _. clash w'.if-not-marks-s.false m
          ]))
    ]
