-- The invariant, `Seeking`: what is left of the search gives the whole, wherever the arcs of the right state begin.
use Rattle.std.proofs.Common.{ℕ, ◌≡◌, ◌-◌}
use Rattle.transducer.specs.Format.{decode, any}
use Rattle.transducer.specs.Accepted.{Leaving}
use Rattle.steps.specs.Runs.{reading_from, FitsOnly}
use Rattle.steps.proofs.RunCode.{Seeking}
use Rattle.steps.proofs.runs.next_run.Given as goal

abbrev pub invariant-loop-at : goal.invariant-loop-at
invariant-loop-at l =
    (from : ℕ) → Leaving (decode l.right) l.q from l.to → l.wild ≡ reading_from (decode l.right) any (l.to - from) from
    → FitsOnly (decode l.right) from l.to l.only → Seeking (decode l.left) (decode l.right) l.filter from l.to l.i l.last l.at
