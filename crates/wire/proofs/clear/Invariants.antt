-- What stands before the place that the loop has come to is the new value, again and again.
use Rattle.std.proofs.Common.{◌≡◌, take, replicate}
use Rattle.wire.proofs.clear.Given as goal

abbrev pub invariant-loop-cell : goal.invariant-loop-cell
invariant-loop-cell g l = take l.cell-index l.cell-items ≡ replicate l.cell-index l.zero
