-- Whatever was built, the steps that are left lead to what the whole run builds, and right arc `j` fits unless it is at the end; and whatever keys are
-- stored, the search along their chain has come to `next`, and nothing has changed in it.
use Rattle.std.proofs.Common.{◌≡◌, List, ℕ, ◌-◌}
use Rattle.transducer.specs.Format.{decode}
use Rattle.explore.specs.Chain.{Chained}
use Rattle.explore.specs.Walk.{Sofar, Walked, all_taken}
use Rattle.explore.proofs.Search.{Searching}
use Rattle.explore.proofs.Walking.{Taking}
use Rattle.steps.specs.Runs.{Takeable}
use Rattle.compose.specs.Taking.{run_left}
use Rattle.compose.proofs.walking.take_each.Given as goal

abbrev pub invariant-loop-next : goal.invariant-loop-next
invariant-loop-next l = record {
  searching : (xs : List ℕ) → Chained xs l.states l.heads l.links → Searching l.key xs l.next;
  same_states : l.states ≡ l.initial.states;
  same_heads : l.heads ≡ l.initial.heads;
  same_links : l.links ≡ l.initial.links;
  same_walk : l.walk ≡ l.initial.walk;
}

abbrev pub decreases-loop-next : goal.decreases-loop-next
decreases-loop-next l = l.next

abbrev pub invariant-loop-j : goal.invariant-loop-j
invariant-loop-j l = record {
  taking : (b : Sofar) → Walked 2 b l.fn.w l.fn.table l.fn.origins l.fn.states l.fn.heads l.fn.links
      → Taking 2 l.source (run_left (decode l.right) l.r l.to l.j) (all_taken l.source (run_left (decode l.right) l.r l.to l.fn.from) b)
      l.walk l.table l.origins l.states l.heads l.links;
  ready : Takeable (decode l.right) l.r l.j l.to;
}

abbrev pub decreases-loop-j : goal.decreases-loop-j
decreases-loop-j l = l.to - l.j
