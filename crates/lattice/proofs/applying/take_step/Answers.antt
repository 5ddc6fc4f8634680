-- `walked_next` says what a step leaves in the buffers, and `taken_over` that a target without a number is one state too many.
use Rattle.std.proofs.Common.{◌≡◌, ◌<◌, ℕ, List, [], ◌∷◌, refl, sym, rules, arith, w32, to_z, of_z}
use Rattle.transducer.specs.Format.{max_states}
use Rattle.explore.specs.Explore.{place}
use Rattle.explore.specs.Chain.{Chained}
use Rattle.explore.specs.Walk.{traced_by}
use Rattle.explore.proofs.Search.{place_le}
use Rattle.explore.proofs.Walking.{walked_next, went_done, went_full}
use Rattle.lattice.specs.Applying.{arc_keyed}
use Rattle.lattice.proofs.ServedArcs.{traced_one, traced_none, taken_over}
use Rattle.lattice.proofs.applying.take_step.Goals.{then-arcs-lt-MAX_ARCS, else-arcs-lt-MAX_ARCS}
use Rattle.lattice.proofs.applying.take_step.Goals as goal
use lib.Dec.{eqb}

pub returns-then-number-eq-MAX_STATES : goal.returns-then-number-eq-MAX_STATES
unfolding arc_keyed
returns-then-number-eq-MAX_STATES c = λ b k.
    let a = c.args in
    went_full (λ e. omega arith)
    (taken_over a.a.source c.find-number.result (arc_keyed a.a a.i a.key) k (c.find-number.ensures b.keys k.chained (sym k.states_are))
    c.if-number-eq-MAX_STATES.true)

-- Fewer than 1,024 keys, or the key is one of them.
number_small : (key : ℕ) {number : ℕ} {xs states heads links : List ℕ} → Chained xs states heads links → number ≡ place eqb key xs
    → (number ≡ max_states → ⊥) → number < max_states
number_small key {number} {xs} chained is new = omega (arith, place_le key xs, chained.few)

pub store_new-requires : goal.store_new-requires
store_new-requires c =
    let k = c.requires.holds.1 in
    (number_small c.args.key k.chained (c.find-number.ensures _ k.chained (sym k.states_are)) c.if-number-eq-MAX_STATES.false, k.chained.room)

pub overflow_cast-made : goal.overflow_cast-made
overflow_cast-made c =
    let k = c.requires.holds.1 in
    omega (arith, number_small c.args.key k.chained (c.find-number.ensures _ k.chained (sym k.states_are)) c.if-number-eq-MAX_STATES.false)

pub returns : goal.returns
unfolding arc_keyed
returns c = λ b k.
    let a = c.args in
    let put = c.record_arc in
    let store = c.store_new in
    let origins = c.if-arcs-lt-MAX_ARCS.origins in
    let is = c.find-number.ensures b.keys k.chained (sym k.states_are) in
    let weight : to_z w32 (of_z w32 a.a.weight) ≡ a.a.weight = search rules in
    let stored = store.ensures b.keys (sym k.states_are) is k.chained in
    let traced : origins ≡ traced_by 1 a.w.arcs (a.i ∷ []) a.origins.now =
    elim c.if-arcs-lt-MAX_ARCS.branch [
      | then-arcs-lt-MAX_ARCS w ↦ traced_one a.w.arcs a.i a.origins.now origins w.if-arcs-lt-MAX_ARCS.true w.origins-is
      | else-arcs-lt-MAX_ARCS w ↦ traced_none a.w.arcs (a.i ∷ []) a.origins.now origins w.if-arcs-lt-MAX_ARCS.false w.origins-is
    ] in
    went_done
    (walked_next 1 b a.a.source c.find-number.result store.result (arc_keyed a.a a.i a.key) a.w put.result a.table.now put.new.table
    a.origins.now origins a.states.now store.new.states a.heads.now store.new.heads a.links.now store.new.links k is
    stored.0 stored.1 refl traced (rw weight at put.ensures))
