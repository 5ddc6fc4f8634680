-- A store loop: the first origins are traced on, and the others are as they were.
use Rattle.std.proofs.Common.{◌≡◌, map, take, drop, get_or, ◌++◌}
use Rattle.lattice.proofs.applying.trace.Given as goal

abbrev pub invariant-loop-origin : goal.invariant-loop-origin
invariant-loop-origin l =
    l.origin-items ≡ map (λ k. get_or l.arcs k 0) (take l.origin-index l.initial.origin-items) ++ drop l.origin-index l.initial.origin-items
