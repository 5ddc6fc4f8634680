-- The laws of `ServedArcs` carry the loop. The invariant: whatever was built, the steps of the arcs from `i` on lead to what serving the state builds.
use Rattle.transducer.specs.Format.{decode}
use Rattle.explore.specs.Walk.{Sofar, state_served, Walked}
use Rattle.explore.proofs.Walking.{Taking}
use Rattle.lattice.specs.Pack.{unpacked}
use Rattle.lattice.specs.Applying.{next}
use Rattle.std.proofs.Common.{get_or}
use Rattle.lattice.proofs.ServedArcs.{arcs_left}
use Rattle.lattice.proofs.applying.expand_state.Given as goal

abbrev pub invariant-loop-i : goal.invariant-loop-i
invariant-loop-i l =
    let cs = l.operands.string.now in
    let t = decode l.operands.bytes.now in
    (b : Sofar) → Walked 1 b l.fn.w l.initial.table l.initial.origins l.initial.states l.initial.heads l.initial.links
    → Taking 1 l.source (arcs_left cs t (unpacked (get_or l.initial.states l.source 0)) l.end l.i) (state_served (next cs t) l.source b) l.walk
    l.table l.origins l.states l.heads l.links
