-- The invariant, `Filling`: the arcs from number `j` on are in the chains; the arrays stay as long as they are.
use Rattle.transducer.specs.Format.{decode}
use Rattle.steps.proofs.Links.{Filling}
use Rattle.steps.proofs.lookup.put_chains.Given as goal

abbrev pub invariant-loop-j : goal.invariant-loop-j
invariant-loop-j l = Filling (decode l.right) l.j l.heads l.chain l.next_same_label
