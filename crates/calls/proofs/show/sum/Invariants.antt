-- The sum stays below the prime, so that it never wraps.
use Rattle.std.proofs.Common.{◌<◌}
use Rattle.calls.proofs.show.sum.Given as goal

abbrev pub invariant-loop-cell : goal.invariant-loop-cell
invariant-loop-cell g l = l.sum < 65521
