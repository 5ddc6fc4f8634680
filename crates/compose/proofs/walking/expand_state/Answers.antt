-- The laws of `Serving` carry the loop, and `next_run_here` says which run is taken in a turn.
use Rattle.std.proofs.Common.{◌≡◌, ℕ, ◌+◌, ◌-◌, ◌<◌, ◌≤◌, get_or, arith, sym, refl, subst}
use Rattle.transducer.specs.Format.{max_arcs, max_states}
use Rattle.transducer.specs.Accepted.{Leaving}
use Rattle.transducer.proofs.RoundTrip.{good_range}
use Rattle.steps.specs.declared.Run.{Run}
use Rattle.steps.specs.declared.State.{State}
use Rattle.steps.specs.Runs.{run_at, begin_from, InBoth}
use Rattle.steps.proofs.Reading.{right_from, RunHere, next_run_here}
use Rattle.compose.specs.declared.sides.Sides.{Sides}
use Rattle.compose.specs.Walk.{left_of, right_of, Walkable}
use Rattle.compose.proofs.WalkCode.{Placed, placed, placed_left, placed_right, placed_leaving, serving_first, serving_next, serving_full, serving_stop}
use Rattle.compose.proofs.walking.expand_state.Goals.{After-unpack-x, After-next_run-at}
use Rattle.compose.proofs.walking.expand_state.Goals as goal

-- Where the arcs of each begin and end.
abbrev first_of : Sides → State → ℕ
first_of s x = get_or s.left.index.now x.left 0

abbrev last_of : Sides → State → ℕ
last_of s x = get_or s.left.index.now (x.left + 1) 0

abbrev from_of : Sides → State → ℕ
from_of s x = get_or s.right.index.now x.right 0

abbrev to_of : Sides → State → ℕ
to_of s x = get_or s.right.index.now (x.right + 1) 0

-- The bounds of the arcs of a state's parts, and that these are states of the two transducers.
record Bounds (s : Sides) (x : State) : Type 0 where
  left_few : x.left < max_states
  right_few : x.right < max_states
  parts : Placed (left_of s) (right_of s) x (first_of s x) (last_of s x) (to_of s x)
  last_few : last_of s x ≤ max_arcs
  from_is : from_of s x ≡ right_from (right_of s) x
  leaving : Leaving (right_of s) x.right (from_of s x) (to_of s x)

bounds : (s : Sides) (x : State) → Walkable s → InBoth (left_of s) (right_of s) x → Bounds s x
bounds s x w inside =
    let t = left_of s in
    let u = right_of s in
    let p : Placed t u x (first_of s x) (last_of s x) (to_of s x) =
    placed t u x s.left.index.now s.right.index.now w.both.left_index w.both.right_index inside in
    let from_is : from_of s x ≡ right_from u x = w.both.right_index.at_state x.right (omega (arith, inside.right_in)) in
    record {
      left_few = omega (arith, inside.left_in, (good_range t w.both.left_good).states);
      right_few = omega (arith, inside.right_in, (good_range u w.both.right_good).states);
      parts = p;
      last_few = omega (arith, (placed_left p).1, (good_range t w.both.left_good).arcs);
      from_is = from_is;
      leaving = subst (λ (n : ℕ). Leaving u x.right n (to_of s x)) (sym from_is) (placed_leaving p w.both.right_good);
    }

at : (c : After-unpack-x) → Bounds c.args.sides.now c.unpack-x.result
at c = bounds c.args.sides.now c.unpack-x.result c.requires.walkable (rw c.unpack-x.ensures c.requires.in_both)

pub bounds-rindex-q : goal.bounds-rindex-q
bounds-rindex-q c = omega (arith, at (goal.at.bounds-rindex-q c).After-unpack-x)

pub bounds-rindex-q-2 : goal.bounds-rindex-q-2
bounds-rindex-q-2 c = omega (arith, at (goal.at.bounds-rindex-q-2 c).After-unpack-x)

pub bounds-lindex-p : goal.bounds-lindex-p
bounds-lindex-p c = omega (arith, at (goal.at.bounds-lindex-p c).After-unpack-x)

pub overflow_cast-q-2 : goal.overflow_cast-q-2
overflow_cast-q-2 c = omega (arith, at (goal.at.overflow_cast-q-2 c).After-unpack-x)

pub bounds-lindex-p-2 : goal.bounds-lindex-p-2
bounds-lindex-p-2 c = omega (arith, at (goal.at.bounds-lindex-p-2 c).After-unpack-x)

pub only_label-only-requires : goal.only_label-only-requires
only_label-only-requires c =
    let b = at (goal.at.only_label-only-requires c).After-unpack-x in
    (c.requires.walkable.both.right_open, b.leaving.rest.order, placed_right b.parts, (placed_left b.parts).0, b.last_few)

pub loop-i-init : goal.loop-i-init
loop-i-init c =
    let a = c.args in
    let both = c.requires.walkable.both in
    let p = (at (goal.at.loop-i-init c).After-unpack-x).parts in
    record {
      serving = λ b was.
          serving_first (left_of a.sides.now) (right_of a.sides.now) c.unpack-x.result a.source
          (first_of a.sides.now c.unpack-x.result) (last_of a.sides.now c.unpack-x.result) (to_of a.sides.now c.unpack-x.result) b a.w a.table.now
          a.origins.now a.states.now a.heads.now a.links.now both.left_good both.right_good c.requires.source_met c.unpack-x.ensures p was;
      parts = p;
    }

pub overflow_cast-q-in-loop-i : goal.overflow_cast-q-in-loop-i
overflow_cast-q-in-loop-i c = omega (arith, at (goal.at.overflow_cast-q-in-loop-i c).After-unpack-x)

pub next_run-at-requires-clause-accepted_at : goal.next_run-at-requires-clause-accepted_at
next_run-at-requires-clause-accepted_at c =
    (c.requires.walkable.both.left_open, c.loop-i-test.true, (placed_left c.loop-i.invariant.parts).1)

-- The run that begins at the place that `next_run` gave is the next one.
begins : (c : After-next_run-at) (b : Bounds c.args.sides.now c.unpack-x.result) (r : Run)
    → r ≡ run_at (left_of c.args.sides.now) (last_of c.args.sides.now c.unpack-x.result) c.unpack-x.result c.next_run-at.result
    → RunHere (left_of c.args.sides.now) (right_of c.args.sides.now) c.unpack-x.result c.loop-i.i
    (last_of c.args.sides.now c.unpack-x.result) (to_of c.args.sides.now c.unpack-x.result) c.next_run-at.result r
begins c b r r_is =
    let s = c.args.sides.now in
    let x = c.unpack-x.result in
    let t = left_of s in
    let u = right_of s in
    let both = c.requires.walkable.both in
    let p = b.parts in
    let wild_is = c.first_any-wild.ensures (from_of s x) b.leaving in
    let begun = c.next_run-at.ensures (from_of s x) b.leaving wild_is (c.only_label-only.ensures x.right b.leaving wild_is) in
    next_run_here t u x c.loop-i.i (last_of s x) (to_of s x) c.next_run-at.result r both.left_good both.right_good p.inside p.to_is
    c.loop-i-test.true (placed_left p).1
    (subst (λ (n : ℕ). c.next_run-at.result ≡ begin_from t u x.filter n (to_of s x - n) (last_of s x - c.loop-i.i) c.loop-i.i) b.from_is begun)
    r_is

pub run_of-r-requires : goal.run_of-r-requires
run_of-r-requires c =
    let b = at (goal.at.run_of-r-requires c).After-unpack-x in
    let s = c.args.sides.now in
    let run = run_at (left_of s) (last_of s c.unpack-x.result) c.unpack-x.result c.next_run-at.result in
    let here = begins (goal.at.run_of-r-requires c).After-next_run-at b run refl in
    (c.requires.walkable.both.left_open, here.at_most, here.alone_before, (placed_left b.parts).1)

pub take_run-walk-requires-clause-takeable : goal.take_run-walk-requires-clause-takeable
take_run-walk-requires-clause-takeable c =
    let g = goal.at.take_run-walk-requires-clause-takeable c in
    rw c.end_of-end.ensures (begins g.After-next_run-at (at g.After-unpack-x) c.run_of-r.result c.run_of-r.ensures).ready

pub returns-then-walk-ne0 : goal.returns-then-walk-ne0
returns-then-walk-ne0 c = λ b k.
    let g = goal.at.returns-then-walk-ne0 c in
    let here = begins g.After-next_run-at (at g.After-unpack-x) c.run_of-r.result c.run_of-r.ensures in
    let serving = c.loop-i.invariant.serving b k in
    let out = c.take_run-walk.new in
    serving_full serving c.loop-i-test.true here c.take_run-walk.result out.table out.origins out.states out.heads out.links
    (rw c.end_of-end.ensures at (c.take_run-walk.ensures serving.taking.sofar serving.taking.walked)) c.if-walk-ne0.true

pub overflow_add-i : goal.overflow_add-i
overflow_add-i c =
    let g = goal.at.overflow_add-i c in
    let b = at g.After-unpack-x in
    let here = begins g.After-next_run-at b c.run_of-r.result c.run_of-r.ensures in
    omega (arith, here.at_most, b.last_few)

pub loop-i-smaller : goal.loop-i-smaller
loop-i-smaller c =
    let g = goal.at.loop-i-smaller c in
    let here = begins g.After-next_run-at (at g.After-unpack-x) c.run_of-r.result c.run_of-r.ensures in
    omega (arith, here.at_least, here.at_most)

pub loop-i-preserved : goal.loop-i-preserved
loop-i-preserved c =
    let g = goal.at.loop-i-preserved c in
    let here = begins g.After-next_run-at (at g.After-unpack-x) c.run_of-r.result c.run_of-r.ensures in
    let out = c.take_run-walk.new in
    record {
      serving = λ b k.
          let serving = c.loop-i.invariant.serving b k in
          serving_next serving c.loop-i-test.true here c.take_run-walk.result out.table out.origins out.states out.heads out.links
          (rw c.end_of-end.ensures at (c.take_run-walk.ensures serving.taking.sofar serving.taking.walked)) c.if-walk-ne0.false;
      parts = c.loop-i.invariant.parts;
    }

pub returns : goal.returns
returns c = λ b k. serving_stop (c.loop-i.invariant.serving b k) c.loop-i-test.false
