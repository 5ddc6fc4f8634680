-- The invariant: whatever keys are stored, the search along their chain has come to `next`, which is also the measure, since links lead to smaller numbers.
use mathlib.Core.Path.{◌≡◌}
use mathlib.Core.List.{List}
use Prim.Native.Nat.{ℕ}
use lib.ListN.{length}
use Rattle.explore.specs.Chain.{Chained}
use Rattle.explore.proofs.Search.{Searching}
use Rattle.explore.proofs.find.Given as goal

abbrev pub invariant-loop-next : goal.invariant-loop-next
invariant-loop-next l = (xs : List ℕ) → Chained xs l.states l.heads l.links → length xs ≡ l.count → Searching l.key xs l.next

abbrev pub decreases-loop-next : goal.decreases-loop-next
decreases-loop-next l = l.next
