use Rattle.std.proofs.Common.{w64, take, refl, ◌∙◌, arith, length-take-le}
use Rattle.std.proofs.Math.Facts.{to_z-of_z}
use Rattle.wire.specs.Bytes.{cleared}
use Rattle.reach.proofs.Sized.{opened_sized}
use Rattle.reach.proofs.Ends.{opened_ends}
use Rattle.report.proofs.Telling.{telling_first, telling_arc, telling_past, telling_put, telling_stop}
use Rattle.report.proofs.path.put_labels.Goals as goal

pub loop-number-init : goal.loop-number-init
loop-number-init c =
    let long = length-take-le c.args.len c.args.arcs.now c.requires.2 in
    telling_first (opened_sized c.type_inv.table c.requires.0) (take c.args.len c.args.arcs.now) c.requires.1 c.requires.4
    (omega (arith, long, c.requires.3)) c.requires.5 refl

pub arc_of-a-requires : goal.arc_of-a-requires
arc_of-a-requires c = (c.requires.0, (telling_arc c.loop-number.invariant c.loop-number-test.true refl).below)

pub loop-number-preserved-then-a-eq0 : goal.loop-number-preserved-then-a-eq0
loop-number-preserved-then-a-eq0 c =
    let a = c.arc_of-a.result in
    let here = telling_arc c.loop-number.invariant c.loop-number-test.true refl in
    let read = opened_ends c.type_inv.table c.requires.0 _ a here.below c.arc_of-a.ensures in
    let sum = to_z-of_z {w = w64} (record { sfits = c.plus-cost.type_inv }) ∙ (rw read.weight_back at c.plus-cost.ensures) in
    rw sum (telling_past (opened_sized c.type_inv.table c.requires.0) c.loop-number.invariant c.loop-number-test.true refl a c.arc_of-a.ensures
    c.if-a-eq0.true)

pub loop-number-preserved : goal.loop-number-preserved
loop-number-preserved c =
    let a = c.arc_of-a.result in
    let here = telling_arc c.loop-number.invariant c.loop-number-test.true refl in
    let read = opened_ends c.type_inv.table c.requires.0 _ a here.below c.arc_of-a.ensures in
    let sum = to_z-of_z {w = w64} (record { sfits = c.plus-cost.type_inv }) ∙ (rw read.weight_back at c.plus-cost.ensures) in
    rw sum (telling_put (opened_sized c.type_inv.table c.requires.0) c.loop-number.invariant c.loop-number-test.true refl a c.arc_of-a.ensures
    c.if-a-eq0.false)

pub returns : goal.returns
unfolding cleared
returns c = telling_stop (opened_sized c.type_inv.table c.requires.0) c.loop-number.invariant c.loop-number-test.false c.clear.ensures
