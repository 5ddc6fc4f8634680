-- The arcs of the state from that of the cell on are followed. Each turn leaves less to follow.
use Rattle.transducer.specs.Format.{decode}
use Rattle.reach.proofs.Stacked.{Serving, left_to_follow}
use Rattle.reach.proofs.stack.pop_state.Given as goal

abbrev pub invariant-loop-cell : goal.invariant-loop-cell
invariant-loop-cell l = Serving (decode l.table) l.back l.initial.marks l.top l.s l.marks l.stack l.end l.cell

abbrev pub decreases-loop-cell : goal.decreases-loop-cell
decreases-loop-cell l = left_to_follow l.marks l.cell
