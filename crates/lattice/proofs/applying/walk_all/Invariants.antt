-- The laws of `Walking` carry the loop. The invariant: the states of numbers below `s` are served, and serving those from `s` on gives what is
-- found in the end.
use Rattle.std.proofs.Common.{◌-◌}
use Rattle.transducer.specs.Format.{decode, max_states}
use Rattle.explore.proofs.Walking.{Walking}
use Rattle.lattice.specs.Apply.{first_state}
use Rattle.lattice.specs.Pack.{pack}
use Rattle.lattice.specs.Applying.{next, StateIn}
use Rattle.lattice.proofs.applying.walk_all.Given as goal

abbrev pub invariant-loop-s : goal.invariant-loop-s
invariant-loop-s l =
    let cs = l.operands.string.now in
    let t = decode l.operands.bytes.now in
    Walking pack (StateIn cs t) 1 (next cs t) (pack (first_state t)) l.s l.walk l.table l.origins l.states l.heads l.links

abbrev pub decreases-loop-s : goal.decreases-loop-s
decreases-loop-s l = max_states - l.s
