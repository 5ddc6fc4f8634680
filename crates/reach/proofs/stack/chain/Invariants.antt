-- The first `i` arcs are in chains.
use Rattle.transducer.specs.Format.{decode}
use Rattle.reach.proofs.Chains.{Chaining}
use Rattle.reach.proofs.stack.chain.Given as goal

abbrev pub invariant-loop-i : goal.invariant-loop-i
invariant-loop-i l = Chaining (decode l.table) l.back l.i l.heads l.next
