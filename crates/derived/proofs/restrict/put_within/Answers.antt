use Rattle.std.proofs.Common.{◌≡◌, w32, to_z, of_z, refl, sym, ◌∙◌, rules, arith}
use Rattle.std.proofs.Math.Facts.{to_z-of_z}
use Rattle.transducer.specs.Path.{arc}
use Rattle.reach.proofs.Sized.{opened_sized}
use Rattle.reach.proofs.Ends.{opened_ends}
use Rattle.relax.specs.Tentative.{cost_at}
use Rattle.derived.specs.Restricted.{within_bound}
use Rattle.trim.proofs.Passing.{passing_first, passing_skip, passing_more, passing_stop}
use Rattle.derived.proofs.restrict.put_within.Goals as goal

pub loop-i-init : goal.loop-i-init
loop-i-init c = passing_first c.args.out.now c.args.numbers.now

pub bounds-coming-s : goal.bounds-coming-s
bounds-coming-s c = omega (arith, opened_ends c.type_inv.table c.requires.0 c.loop-i.i c.arc_of-a.result (omega arith) c.arc_of-a.ensures)

pub bounds-rest-t : goal.bounds-rest-t
bounds-rest-t c = omega (arith, opened_ends c.type_inv.table c.requires.0 c.loop-i.i c.arc_of-a.result (omega arith) c.arc_of-a.ensures)

pub loop-i-preserved-then-not-sum_at_most : goal.loop-i-preserved-then-not-sum_at_most
unfolding arc within_bound
loop-i-preserved-then-not-sum_at_most c =
    let a = c.arc_of-a.result in
    let read = opened_ends c.type_inv.table c.requires.0 c.loop-i.i a (omega arith) c.arc_of-a.ensures in
    let one : to_z w32 (of_z w32 (cost_at c.args.coming.now a.source)) ≡ cost_at c.args.coming.now a.source = search rules in
    let two : to_z w32 (of_z w32 (cost_at c.args.rest.now a.target)) ≡ cost_at c.args.rest.now a.target = search rules in
    passing_skip a (omega arith) c.arc_of-a.ensures c.loop-i.invariant
    (rw (read.weight_back, one, two) at (sym c.sum_at_most.ensures ∙ c.if-not-sum_at_most.true))

pub overflow_cast-numbers : goal.overflow_cast-numbers
overflow_cast-numbers c = omega (arith, opened_sized c.type_inv.table c.requires.0)

pub loop-i-preserved : goal.loop-i-preserved
unfolding arc within_bound
loop-i-preserved c =
    let a = c.arc_of-a.result in
    let read = opened_ends c.type_inv.table c.requires.0 c.loop-i.i a (omega arith) c.arc_of-a.ensures in
    let one : to_z w32 (of_z w32 (cost_at c.args.coming.now a.source)) ≡ cost_at c.args.coming.now a.source = search rules in
    let two : to_z w32 (of_z w32 (cost_at c.args.rest.now a.target)) ≡ cost_at c.args.rest.now a.target = search rules in
    passing_more a (omega arith) c.arc_of-a.ensures c.loop-i.invariant a _ _
    (rw (read.weight_back, one, two) at (sym c.sum_at_most.ensures ∙ c.if-not-sum_at_most.false)) refl refl refl c.put_arc.auto.out c.put_arc.ensures refl

pub returns : goal.returns
returns c = rw (to_z-of_z c.ranges.most) at (passing_stop (omega arith) c.loop-i.invariant)
