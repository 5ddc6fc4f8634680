-- The invariant: wherever the chain begins, the search along it has come to `next`.
use Prim.Native.Nat.{ℕ}
use lib.ListN.{length}
use Rattle.transducer.specs.Format.{decode}
use Rattle.steps.specs.Lookup.{Leads}
use Rattle.steps.proofs.Links.{Along, left_of}
use Rattle.steps.proofs.lookup.along.Given as goal

abbrev pub invariant-loop-next : goal.invariant-loop-next
invariant-loop-next l = (from : ℕ) → Leads (decode l.right) l.q l.label from l.chain l.head → Along (decode l.right) l.q l.label from l.next

abbrev pub decreases-loop-next : goal.decreases-loop-next
decreases-loop-next l = left_of (length (decode l.right).arcs) l.next
