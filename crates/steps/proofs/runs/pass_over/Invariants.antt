-- The invariant, `Seeking`: whatever the right state, as long as it may fit one label alone, what is left of the search gives the whole.
use Rattle.std.proofs.Common.{ℕ, ◌-◌, ◌≤◌}
use Rattle.transducer.specs.Format.{Transducer, decode}
use Rattle.steps.specs.Runs.{FitsOnly}
use Rattle.steps.proofs.RunCode.{Seeking}
use Rattle.steps.proofs.runs.pass_over.Given as goal

abbrev pub invariant-loop-k : goal.invariant-loop-k
invariant-loop-k l = record {
  within : l.k ≤ l.last;
  same : (u : Transducer) (filter from to : ℕ) → from ≤ to → FitsOnly u from to l.only → Seeking (decode l.left) u filter from to l.i l.last l.k;
}

abbrev pub decreases-loop-k : goal.decreases-loop-k
decreases-loop-k l = l.last - l.k
