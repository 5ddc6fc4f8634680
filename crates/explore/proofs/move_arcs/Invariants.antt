-- The invariant: the first `j` of the records that stood from `from` on are stored from `first` on.
use Rattle.std.proofs.Common.{◌≡◌, ◌*◌, take, drop}
use lib.Seq.{sets}
use Rattle.explore.proofs.move_arcs.Given as goal

abbrev pub invariant-loop-j : goal.invariant-loop-j
invariant-loop-j l = l.table ≡ sets l.fn.table l.first (take (16 * l.j) (drop l.from l.fn.table))
