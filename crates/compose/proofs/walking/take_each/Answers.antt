-- The laws of `Taking` carry the outer loop and those of `Searching` the search in it. Either way out of the search leaves the key stored (`KeyKept`).
use Rattle.std.proofs.Common.{◌≡◌, ℕ, suc, List, length, ◌-◌, ◌<◌, arith, sym, ◌∙◌}
use Rattle.transducer.specs.Format.{max_states}
use Rattle.explore.specs.Chain.{Chained}
use Rattle.explore.proofs.Search.{Searching, search_in, search_less, search_found, search_next, search_none}
use Rattle.explore.proofs.Recording.{KeyKept, kept_new, kept_old}
use Rattle.explore.proofs.Walking.{went_full, taking_over, taking_stop}
use Rattle.steps.proofs.Links.{step_last, step_more}
use Rattle.compose.specs.Walk.{right_of, keyed_step}
use Rattle.compose.specs.Taking.{run_left}
use Rattle.compose.proofs.WalkCode.{taking_kept, run_left_first, run_left_none}
use Rattle.compose.proofs.walking.take_each.Goals.{Else-next-eq0, Joined-next-eq0, then-next-eq0+else-count-eq-FULL, else-next-eq0+then-states-next}
use Rattle.compose.proofs.walking.take_each.Goals as goal

-- The key at hand in a search is a stored one.
stored : {key next : ℕ} {xs states heads links : List ℕ} → Chained xs states heads links → Searching key xs next → (next ≡ 0 → ⊥)
    → (next - 1 < max_states) × (next - 1 < length states)
stored chained s more = let in_keys = search_in chained s more in (omega (arith, in_keys.0, chained.few), omega (arith, in_keys.0, chained.few, chained.room))

-- The keys that are stored while the search goes on are those at the outer loop's head.
at_hand : (c : Else-next-eq0) → (xs : List ℕ) × Chained xs c.loop-next.states c.loop-next.heads c.loop-next.links
    × Searching c.step_of-s.result.target xs c.loop-next.next
at_hand c =
    let held = c.requires.holds in
    let g = c.loop-j.invariant.taking held.0 held.1 in
    let same = c.loop-next.invariant in
    let chained : Chained g.sofar.keys c.loop-next.states c.loop-next.heads c.loop-next.links =
    rw (same.same_states, same.same_heads, same.same_links) g.walked.chained in
    (g.sofar.keys, chained, same.searching g.sofar.keys chained)

pub returns-then-count-eq-FULL : goal.returns-then-count-eq-FULL
unfolding keyed_step
returns-then-count-eq-FULL c = λ b k.
    let a = c.args in
    let step = c.step_of-s in
    let g = c.loop-j.invariant.taking b k in
    let u = right_of a.sides.now in
    let same = c.loop-next.invariant in
    let chained : Chained g.sofar.keys c.loop-next.states c.loop-next.heads c.loop-next.links =
    rw (same.same_states, same.same_heads, same.same_links) g.walked.chained in
    let none = search_none chained (same.searching g.sofar.keys chained) c.if-next-eq0.true in
    went_full (λ e. omega arith)
    (taking_over g (keyed_step step.result) (run_left u a.r a.to (suc c.loop-j.j))
    (run_left_first u a.r a.to c.loop-j.j step.result c.loop-j.invariant.ready c.loop-j-test.true step.ensures)
    c.loop-j.walk.states (g.walked.states_are ∙ sym none.0) c.if-count-eq-FULL.true)

pub offset_bounds-states-next : goal.offset_bounds-states-next
offset_bounds-states-next c =
    let k = at_hand (goal.at.offset_bounds-states-next c).Else-next-eq0 in omega (arith, stored k.1 k.2 c.if-next-eq0.false)

pub bounds-states-next : goal.bounds-states-next
bounds-states-next c = let k = at_hand (goal.at.bounds-states-next c).Else-next-eq0 in omega (arith, stored k.1 k.2 c.if-next-eq0.false)

pub offset_bounds-links-next : goal.offset_bounds-links-next
offset_bounds-links-next c = let k = at_hand (goal.at.offset_bounds-links-next c).Else-next-eq0 in omega (arith, stored k.1 k.2 c.if-next-eq0.false)

pub bounds-links-next : goal.bounds-links-next
bounds-links-next c = let k = at_hand (goal.at.bounds-links-next c).Else-next-eq0 in omega (arith, stored k.1 k.2 c.if-next-eq0.false)

pub loop-next-smaller : goal.loop-next-smaller
loop-next-smaller c = let k = at_hand (goal.at.loop-next-smaller c).Else-next-eq0 in search_less k.1 k.2 c.if-next-eq0.false

pub loop-next-preserved : goal.loop-next-preserved
loop-next-preserved c =
    let same = c.loop-next.invariant in
    record {
      searching = λ xs chained. search_next chained (same.searching xs chained) c.if-next-eq0.false c.if-states-next.false;
      same_states = same.same_states;
      same_heads = same.same_heads;
      same_links = same.same_links;
      same_walk = same.same_walk;
    }

-- The key is stored when the search has ended, and its number is the one that the search gives.
kept : (c : Joined-next-eq0) (xs : List ℕ) → Chained xs c.loop-j.states c.loop-j.heads c.loop-j.links → length xs ≡ c.loop-j.walk.states
    → KeyKept c.step_of-s.result.target xs c.if-next-eq0.number c.loop-j.walk c.if-next-eq0.walk c.if-next-eq0.states c.if-next-eq0.heads
    c.if-next-eq0.links
kept c xs chained long =
    let key = c.step_of-s.result.target in
    let same = c.loop-next.invariant in
    let here : Chained xs c.loop-next.states c.loop-next.heads c.loop-next.links = rw (same.same_states, same.same_heads, same.same_links) chained in
    let s = same.searching xs here in
    elim c.if-next-eq0.branch [
      | then-next-eq0+else-count-eq-FULL w ↦
          let none = search_none here s w.if-next-eq0.true in
          kept_new key long chained.few w.states-is w.heads-is w.links-is none.0 w.if-count-eq-FULL.false
          (w.insert.ensures.by_index xs long none.1 here) w.number-is (rw same.same_walk at w.walk-is)
      | else-next-eq0+then-states-next w ↦
          let there = search_found here s w.if-next-eq0.false w.if-states-next.true in
          kept_old key long chained.few w.states-is w.heads-is w.links-is (w.number-is ∙ there.0) there.1 here (w.walk-is ∙ same.same_walk)
    ]

pub record_step-walk-requires : goal.record_step-walk-requires
record_step-walk-requires c =
    let held = c.requires.holds in
    let g = c.loop-j.invariant.taking held.0 held.1 in
    let w = g.walked in (
      (kept (goal.at.record_step-walk-requires c).Joined-next-eq0 g.sofar.keys w.chained (sym w.states_are)).small,
      w.recorded.arcs_held.table_long,
      w.recorded.origins_held.origins_long,
    )

pub returns-then-link-eq0 : goal.returns-then-link-eq0
returns-then-link-eq0 c = λ b k.
    let a = c.args in
    let u = right_of a.sides.now in
    let links = c.requires.walkable.right_lookup.repeated in
    let together = c.requires.takeable.1 in
    let g = c.loop-j.invariant.taking b k in
    let wrote = c.record_step-walk.ensures in
    let stored_key = kept (goal.at.returns-then-link-eq0 c).Joined-next-eq0 g.sofar.keys g.walked.chained (sym g.walked.states_are) in
    let last = step_last links c.loop-j.j a.to c.loop-j.invariant.ready c.loop-j-test.true together c.if-link-eq0.true in
    taking_stop (taking_kept g last c.step_of-s.ensures stored_key wrote.records wrote.origins_after) (run_left_none u a.r a.to a.to (omega arith))

pub loop-j-smaller : goal.loop-j-smaller
loop-j-smaller c =
    let links = c.requires.walkable.right_lookup.repeated in
    let together = c.requires.takeable.1 in
    let next = step_more links c.loop-j.j c.args.to c.loop-j.invariant.ready c.loop-j-test.true together c.if-link-eq0.false in
    omega (arith, next.past, c.loop-j-test.true)

pub loop-j-preserved : goal.loop-j-preserved
loop-j-preserved c =
    let links = c.requires.walkable.right_lookup.repeated in
    let together = c.requires.takeable.1 in
    let next = step_more links c.loop-j.j c.args.to c.loop-j.invariant.ready c.loop-j-test.true together c.if-link-eq0.false in
    record {
      taking = λ b k.
          let g = c.loop-j.invariant.taking b k in
          let wrote = c.record_step-walk.ensures in
          let stored_key = kept (goal.at.loop-j-preserved c).Joined-next-eq0 g.sofar.keys g.walked.chained (sym g.walked.states_are) in
          taking_kept g next c.step_of-s.ensures stored_key wrote.records wrote.origins_after;
      ready = next.ready;
    }

pub returns : goal.returns
returns c = λ b k.
    let a = c.args in
    taking_stop (c.loop-j.invariant.taking b k) (run_left_none (right_of a.sides.now) a.r a.to c.loop-j.j c.loop-j-test.false)
