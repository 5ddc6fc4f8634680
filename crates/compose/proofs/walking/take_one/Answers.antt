-- The one step is taken by the laws of `Taking`, as a step of `take_each` is, and `find` gives the number of its target.
use Rattle.std.proofs.Common.{arith, sym, suc}
use Rattle.explore.proofs.Search.{place_le}
use Rattle.explore.proofs.Walking.{went_full, taking_first, taking_next, taking_over, taking_stop}
use Rattle.compose.specs.Walk.{right_of, keyed_step}
use Rattle.steps.proofs.Reading.{next_alone}
use Rattle.compose.specs.Taking.{run_left}
use Rattle.compose.proofs.WalkCode.{step_walked, run_left_first, run_left_next, run_left_none}
use Rattle.compose.proofs.walking.take_one.Goals as goal

pub returns-then-to-from : goal.returns-then-to-from
returns-then-to-from c = λ b k.
    let a = c.args in
    let u = right_of a.sides.now in
    taking_stop (taking_first a.source (run_left u a.r a.to a.from) k) (run_left_none u a.r a.to a.from c.if-to-from.true)

pub returns-then-number-eq-FULL : goal.returns-then-number-eq-FULL
unfolding keyed_step
returns-then-number-eq-FULL c = λ b k.
    let a = c.args in
    let step = c.step_of-s in
    let u = right_of a.sides.now in
    let g = taking_first a.source (run_left u a.r a.to a.from) k in
    let w = g.walked in
    went_full (λ e. omega arith)
    (taking_over g (keyed_step step.result) (run_left u a.r a.to (suc a.from))
    (run_left_first u a.r a.to a.from step.result c.requires.takeable.0 c.if-to-from.false step.ensures) c.find-number.result
    (c.find-number.ensures g.sofar.keys w.chained (sym w.states_are)) c.if-number-eq-FULL.true)

pub store_new-requires : goal.store_new-requires
store_new-requires c =
    let k = c.requires.holds in
    let found = c.find-number.ensures k.0.keys k.1.chained (sym k.1.states_are) in
    (omega (arith, found, place_le c.step_of-s.result.target k.0.keys, k.1.chained.few, c.if-number-eq-FULL.false), k.1.chained.room)

pub record_step-requires : goal.record_step-requires
record_step-requires c =
    let k = c.requires.holds in
    let found = c.find-number.ensures k.0.keys k.1.chained (sym k.1.states_are) in (
      omega (arith, found, place_le c.step_of-s.result.target k.0.keys, k.1.chained.few, c.if-number-eq-FULL.false),
      k.1.recorded.arcs_held.table_long,
      k.1.recorded.origins_held.origins_long,
    )

pub returns : goal.returns
returns c = λ b k.
    let put = c.record_step in
    let store = c.store_new in
    let a = c.args in
    let step = c.step_of-s in
    let u = right_of a.sides.now in
    let g = taking_first a.source (run_left u a.r a.to a.from) k in
    let w = g.walked in
    let is = c.find-number.ensures g.sofar.keys w.chained (sym w.states_are) in
    let kept = store.ensures g.sofar.keys (sym w.states_are) is w.chained in
    taking_stop
    (taking_next g (keyed_step step.result) (run_left u a.r a.to a.to)
    (run_left_next u a.r a.to a.from a.to step.result
    (next_alone u a.r a.from a.to c.requires.takeable.0 c.if-to-from.false c.requires.takeable.1) step.ensures) put.result
    put.new.table put.new.origins store.new.states store.new.heads store.new.links
    (step_walked g.sofar a.source c.find-number.result store.result step.result a.w put.result a.table.now put.new.table
    a.origins.now put.new.origins a.states.now store.new.states a.heads.now store.new.heads a.links.now store.new.links w is
    kept.0 kept.1 put.ensures.records put.ensures.origins_after))
    (run_left_none u a.r a.to a.to (omega arith))
