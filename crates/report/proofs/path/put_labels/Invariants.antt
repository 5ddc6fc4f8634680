-- The arcs from the turn's one on cost and write what is left of the path.
use Rattle.std.proofs.Common.{length, take}
use Rattle.transducer.specs.Format.{decode}
use Rattle.report.proofs.Telling.{Telling}
use Rattle.report.proofs.path.put_labels.Given as goal

abbrev pub invariant-loop-number : goal.invariant-loop-number
invariant-loop-number l = Telling (decode l.table) (take l.len l.arcs) (length l.initial.labels) l.labels l.s l.cost l.m l.number-index
