use Rattle.std.proofs.Common.{arith, ◌<◌}
use Rattle.transducer.specs.Format.{max_states}
use Rattle.reach.proofs.Stacked.{pushing_top, pushing_over, pushing_next, pushing_stop}
use Rattle.reach.proofs.stack.push_marked.Goals as goal
use Rattle.reach.proofs.stack.push_marked.Goals.{then-marks-state, else-marks-state}

pub offset_bounds-stack-top : goal.offset_bounds-stack-top
offset_bounds-stack-top c = omega (arith, pushing_top c.loop-state.invariant)

pub bounds-stack-top : goal.bounds-stack-top
bounds-stack-top c = omega (arith, pushing_top c.loop-state.invariant)

pub overflow_add-top : goal.overflow_add-top
overflow_add-top c = omega (arith, pushing_top c.loop-state.invariant)

pub loop-state-preserved : goal.loop-state-preserved
loop-state-preserved c =
    let below : c.loop-state.state < max_states = omega arith in
    elim c.if-marks-state.branch [
      | then-marks-state w ↦ rw (w.stack-is, w.top-is) (pushing_next below w.if-marks-state.true c.loop-state.invariant)
      | else-marks-state w ↦ rw (w.stack-is, w.top-is) (pushing_over w.if-marks-state.false c.loop-state.invariant)
    ]

pub returns : goal.returns
returns c = pushing_stop (omega arith) (omega arith) c.loop-state.invariant
