use Rattle.std.proofs.Common.{refl, arith}
use Rattle.transducer.specs.Format.{decode}
use Rattle.transducer.specs.Path.{arc}
use Rattle.reach.proofs.Sized.{opened_sized}
use Rattle.reach.proofs.Ends.{opened_ends}
use Rattle.trim.proofs.Running.{index_no, index_yes, index_arc}
use Rattle.trim.proofs.KeptWritten.{unused_source, unused_target, used_both}
use Rattle.trim.proofs.Passing.{passing_first, passing_skip, passing_more}
use Rattle.trim.proofs.trimming.put_arcs.Goals as goal

pub loop-i-init : goal.loop-i-init
loop-i-init c = passing_first c.args.out.now c.args.origins.now

pub bounds-index-s : goal.bounds-index-s
bounds-index-s c =
    omega (arith, opened_ends c.type_inv.bytes c.requires.0 c.loop-i.i c.arc_of-a.result (omega arith) c.arc_of-a.ensures)

pub bounds-index-s-in-loop-i : goal.bounds-index-s-in-loop-i
bounds-index-s-in-loop-i c =
    omega (arith, opened_ends c.type_inv.bytes c.requires.0 c.loop-i.i c.arc_of-a.result (omega arith) c.arc_of-a.ensures)

pub loop-i-preserved-then-index-s : goal.loop-i-preserved-then-index-s
unfolding arc
loop-i-preserved-then-index-s c =
    let bs = c.args.bytes.now in
    let a = c.arc_of-a.result in
    let ends = opened_ends c.type_inv.bytes c.requires.0 c.loop-i.i a (omega arith) c.arc_of-a.ensures in
    passing_skip a (omega arith) c.arc_of-a.ensures c.loop-i.invariant
    (unused_source (decode bs) a (index_no c.requires.2 a.source ends.source_below c.if-index-s.true))

pub bounds-index-t : goal.bounds-index-t
bounds-index-t c =
    omega (arith, opened_ends c.type_inv.bytes c.requires.0 c.loop-i.i c.arc_of-a.result (omega arith) c.arc_of-a.ensures)

pub bounds-index-t-in-loop-i : goal.bounds-index-t-in-loop-i
bounds-index-t-in-loop-i c =
    omega (arith, opened_ends c.type_inv.bytes c.requires.0 c.loop-i.i c.arc_of-a.result (omega arith) c.arc_of-a.ensures)

pub loop-i-preserved-then-index-t : goal.loop-i-preserved-then-index-t
unfolding arc
loop-i-preserved-then-index-t c =
    let bs = c.args.bytes.now in
    let a = c.arc_of-a.result in
    let ends = opened_ends c.type_inv.bytes c.requires.0 c.loop-i.i a (omega arith) c.arc_of-a.ensures in
    passing_skip a (omega arith) c.arc_of-a.ensures c.loop-i.invariant
    (unused_target (decode bs) a (index_no c.requires.2 a.target ends.target_below c.if-index-t.true))

pub overflow_cast-origins : goal.overflow_cast-origins
overflow_cast-origins c = omega (arith, opened_sized c.type_inv.bytes c.requires.0)

pub loop-i-preserved : goal.loop-i-preserved
unfolding arc
loop-i-preserved c =
    let bs = c.args.bytes.now in
    let a = c.arc_of-a.result in
    let ends = opened_ends c.type_inv.bytes c.requires.0 c.loop-i.i a (omega arith) c.arc_of-a.ensures in
    let used = used_both (decode bs) a (index_yes c.requires.2 a.source ends.source_below c.if-index-s.false)
    (index_yes c.requires.2 a.target ends.target_below c.if-index-t.false) in
    passing_more a (omega arith) c.arc_of-a.ensures c.loop-i.invariant _ _ _ used
    (rw ends.weight_back (index_arc c.requires.2 a ends.source_below ends.target_below)) refl refl c.put_arc.auto.out
    c.put_arc.ensures refl
