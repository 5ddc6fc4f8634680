-- One record a turn, towards the front.
use native.Mathlib.Omega.{arith}
use native.Mathlib.Numerals.{add-one}
use Rattle.std.proofs.Common.{◌*◌}
use Rattle.explore.proofs.MovedArcs.{moved_next, unmoved}
use Rattle.explore.proofs.move_arcs.Goals as goal

pub returns-then-first-from : goal.returns-then-first-from
returns-then-first-from c =
    let a = c.args in
    unmoved a.table.now a.from a.first (16 * a.arcs) c.if-first-from.true c.requires.1

pub loop-j-preserved : goal.loop-j-preserved
loop-j-preserved c =
    let a = c.args in
    rw add-one (moved_next a.table.now c.loop-j.table _ a.from a.first c.loop-j.j c.requires.0 (omega arith) c.loop-j.invariant c.move_record.ensures)
