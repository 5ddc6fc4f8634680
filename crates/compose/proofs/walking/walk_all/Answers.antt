-- The laws of `Walking` carry the loop.
use Rattle.std.proofs.Common.{[], arith, refl}
use Rattle.explore.specs.Explore.{there}
use Rattle.explore.proofs.Chain.{chained_zeros}
use Rattle.explore.proofs.ExploredKeys.{Keying}
use Rattle.explore.proofs.Walking.{walking_first, walking_state, walking_next, walking_full, walking_stop}
use Rattle.steps.specs.Steps.{same_state, steps, first_state, origin_pair}
use Rattle.steps.specs.Packing.{pack}
use Rattle.steps.proofs.Within.{Within}
use Rattle.compose.specs.declared.sides.Sides.{Sides}
use Rattle.compose.specs.Walk.{left_of, right_of, key_steps, Walkable}
use Rattle.compose.proofs.Explored.{composed_keying, key_inside}
use Rattle.compose.proofs.walking.walk_all.Goals as goal

-- Keys stand for the states of the composition.
keying : (s : Sides) → Walkable s → let t = left_of s in let u = right_of s in
    Keying same_state (steps t u) (first_state t u) pack origin_pair (key_steps t u) (Within t u)
keying s w = composed_keying (left_of s) (right_of s) w.both.left_good w.both.right_good

pub loop-s-init : goal.loop-s-init
unfolding there
loop-s-init c =
    let a = c.args in
    let pre = c.requires in
    let room = pre.max_arc_bytes_in_bounds in
    let out = c.insert.new in
    walking_first (keying a.sides.now pre.walkable) 2 a.first a.table.now a.origins.now out.states out.heads out.links pre.first_value room.0 room.1
    (c.insert.ensures.by_index [] refl refl (chained_zeros a.states.now room.2))

pub expand_state-walk-requires-clause-in_both : goal.expand_state-walk-requires-clause-in_both
expand_state-walk-requires-clause-in_both c =
    let s = c.args.sides.now in
    let w = c.requires.walkable in
    key_inside (left_of s) (right_of s) w.both.left_good w.both.right_good _
    (walking_state (keying s w) 2 c.loop-s.invariant c.loop-s-test.true)

pub returns-then-walk-ne0 : goal.returns-then-walk-ne0
returns-then-walk-ne0 c =
    let g = c.loop-s.invariant in
    let went = c.expand_state-walk in
    let out = went.new in
    record {
      full =
          walking_full (keying c.args.sides.now c.requires.walkable) 2 g c.loop-s-test.true went.result out.table out.origins out.states out.heads
          out.links (went.ensures g.sofar g.walked);
      done = λ e. absurd (c.if-walk-ne0.true e);
      table_kept = omega arith;
      origins_kept = omega arith;
      states_kept = omega arith;
    }

pub loop-s-preserved : goal.loop-s-preserved
loop-s-preserved c =
    let g = c.loop-s.invariant in
    let went = c.expand_state-walk in
    let out = went.new in
    walking_next (keying c.args.sides.now c.requires.walkable) 2 g c.loop-s-test.true went.result out.table out.origins out.states out.heads out.links
    (went.ensures g.sofar g.walked) c.if-walk-ne0.false

pub returns : goal.returns
returns c =
    let g = c.loop-s.invariant in
    record {
      full = λ e. absurd (e g.walked.not_full);
      done = λ e. walking_stop (keying c.args.sides.now c.requires.walkable) 2 g c.loop-s-test.false;
      table_kept = omega arith;
      origins_kept = omega arith;
      states_kept = omega arith;
    }
