-- A store loop. The invariant, `Tracing`: the left origins of the first `i` arcs are traced, and all else is as it was.
use Rattle.cascade.proofs.Tracing.{Tracing}
use Rattle.cascade.proofs.trace_left.Given as goal

abbrev pub invariant-loop-i : goal.invariant-loop-i
invariant-loop-i l = Tracing l.arcs l.count l.initial.origins l.origins l.i
