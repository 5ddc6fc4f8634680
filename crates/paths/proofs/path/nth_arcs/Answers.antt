-- Two loops. The outer one has walked `n` arcs of the path (`Walked`), the inner one passes over arcs of the state that is reached (`Chosen`).
use Rattle.std.proofs.Common.{arith, ◌≡◌, refl, ◌∙◌, false, cond, eqb, ℕ, ◌+◌, ◌≤◌, ◌<◌, List, length, get_or, Fits, w8}
use Rattle.wire.specs.Bytes.{cleared}
use Rattle.transducer.specs.Format.{decode}
use Rattle.transducer.specs.Accepted.{FinalsByState}
use Rattle.capped.specs.declared.Count.{Count}
use Rattle.paths.specs.Count.{endless, path_count}
use Rattle.paths.specs.Tally.{own}
use Rattle.paths.specs.Sweep.{Ready, PathCounts, at_state}
use Rattle.paths.proofs.Ready.{Range, sized_read, range, own_code}
use Rattle.paths.proofs.Steps.{Sought, Walked, walked_first, walked_state, walked_done, walked_next}
use Rattle.paths.proofs.Steps.{Chosen, chosen_first, chosen_below, chosen_past, chosen_room}
use Rattle.paths.proofs.path.nth_arcs.Goals as goal

record Here (bs : List ℕ) (k : ℕ) (all : List Count) (room : ℕ) (index codes : List ℕ) (s : ℕ) : Type 0 where
  sought : Sought (decode bs) k all room
  below : (s < (decode bs).states) × (s < 1024)
  range : Range (decode bs) s (get_or index s 0) (get_or index (s + 1) 0)
  own_is : cond (eqb (get_or codes s 0) 0) 0 1 ≡ own (decode bs) s

record Choice (bs : List ℕ) (i : ℕ) : Type 0 where
  is_arc : i < length (decode bs).arcs
  few : length (decode bs).arcs ≤ 3072

module _ {bs : List ℕ} {first states k start room : ℕ} {index codes : List ℕ} {all : List Count} (fits : (i : ℕ) → Fits w8 (get_or bs i 0))
    (pre : Ready bs first states index × FinalsByState (decode bs) codes × PathCounts (decode bs) all × (start ≡ (decode bs).start)
    × (endless (decode bs) ≡ false) × (k < path_count (decode bs)) × (1023 ≤ room)) where
  sought : Sought (decode bs) k all room
  sought = record { size = sized_read bs fits pre.0.opened.accepted; settled = pre.2; finite = pre.4; there = pre.5; enough = pre.6 }

  -- At a state that is reached.
  here : {arcs : List ℕ} {s left n : ℕ} → Walked (decode bs) k room arcs s left n → Here bs k all room index codes s
  here {arcs} {s} {left} {n} walked =
      let below = walked_state (decode bs) k all room sought arcs s left n walked in
      record {
        sought = sought;
        below = below;
        range = range (decode bs) index s _ _ pre.0.indexed below.0 refl refl;
        own_is = own_code (decode bs) codes s (get_or codes s 0) pre.1 below.1 refl;
      }

  -- At one of its arcs.
  choice : {arcs : List ℕ} {s left n i : ℕ} → Chosen (decode bs) k arcs s left n i → Choice bs i
  choice {arcs} {s} {left} {n} {i} chosen =
      record { is_arc = chosen_below (decode bs) k all room sought arcs s left n i chosen; few = sought.size.arcs }

pub loop-left-init : goal.loop-left-init
loop-left-init c =
    let a = c.args in
    let pre = c.requires in
    walked_first (decode a.table.now) a.k a.all (length a.arcs.now) (sought c.type_inv.table pre) a.arcs.now a.start refl pre.3

pub offset_bounds-codes-s : goal.offset_bounds-codes-s
offset_bounds-codes-s c = let h = here c.type_inv.table c.requires c.loop-left.invariant in omega arith

pub bounds-codes-s : goal.bounds-codes-s
bounds-codes-s c = (here c.type_inv.table c.requires c.loop-left.invariant).below.1

pub offset_bounds-index-s : goal.offset_bounds-index-s
offset_bounds-index-s c = let h = here c.type_inv.table c.requires c.loop-left.invariant in omega arith

pub bounds-index-s : goal.bounds-index-s
bounds-index-s c = let h = here c.type_inv.table c.requires c.loop-left.invariant in omega arith

pub loop-left-2-init : goal.loop-left-2-init
loop-left-2-init c =
    let a = c.args in
    let at = c.loop-left in
    let h = here c.type_inv.table c.requires at.invariant in
    chosen_first (decode a.table.now) a.k a.all (length a.arcs.now) h.sought at.arcs at.s at.left at.n
    (get_or a.index.now at.s 0) (get_or a.index.now (at.s + 1) 0) c.own-mine.result.value at.invariant (c.own-mine.ensures ∙ h.own_is)
    c.if-left-own.false h.range

pub target-to-requires : goal.target-to-requires
target-to-requires c = (c.requires.0.opened, (choice c.type_inv.table c.requires c.loop-left-2.invariant).is_arc)

pub bounds-all-to : goal.bounds-all-to
bounds-all-to c = let z = sized_read c.args.table.now c.type_inv.table c.requires.0.opened.accepted in omega (arith, c.target-to.ensures.1, z.states)

pub overflow_add-i : goal.overflow_add-i
overflow_add-i c = let h = choice c.type_inv.table c.requires c.loop-left-2.invariant in omega arith

pub loop-left-2-smaller : goal.loop-left-2-smaller
loop-left-2-smaller c = let h = choice c.type_inv.table c.requires c.loop-left-2.invariant in omega arith

pub loop-left-2-preserved : goal.loop-left-2-preserved
unfolding at_state
loop-left-2-preserved c =
    let a = c.args in
    let at = c.loop-left-2 in
    chosen_past (decode a.table.now) a.k a.all (length a.arcs.now) (sought c.type_inv.table c.requires) c.loop-left.arcs c.loop-left.s at.left
    c.loop-left.n at.i c.target-to.result at.invariant c.target-to.ensures.0 c.if-left-there.false

pub overflow_cast-arcs : goal.overflow_cast-arcs
overflow_cast-arcs c = let h = choice c.type_inv.table c.requires c.loop-left-2.invariant in omega arith

pub bounds-arcs-n : goal.bounds-arcs-n
unfolding at_state
bounds-arcs-n c =
    let a = c.args in
    let at = c.loop-left in
    let free = chosen_room (decode a.table.now) a.k a.all (length a.arcs.now) (sought c.type_inv.table c.requires) at.arcs at.s c.loop-left-2.left
    at.n c.loop-left-2.i c.target-to.result at.s at.left at.invariant c.loop-left-2.invariant c.target-to.ensures.0 c.if-left-there.true in
    omega (arith, free, at.invariant.long, c.requires.6)

pub loop-left-preserved : goal.loop-left-preserved
unfolding at_state
loop-left-preserved c =
    let a = c.args in
    let at = c.loop-left in
    walked_next (decode a.table.now) a.k a.all (length a.arcs.now) (sought c.type_inv.table c.requires) at.arcs at.s c.loop-left-2.left
    at.n c.loop-left-2.i c.target-to.result at.s at.left at.invariant c.loop-left-2.invariant c.target-to.ensures.0 c.if-left-there.true

pub returns : goal.returns
unfolding cleared
returns c =
    let a = c.args in
    let at = c.loop-left in
    let h = here c.type_inv.table c.requires at.invariant in
    let done = walked_done (decode a.table.now) a.k a.all (length a.arcs.now) h.sought at.arcs at.s at.left at.n c.own-mine.result.value at.invariant
    (c.own-mine.ensures ∙ h.own_is) c.if-left-own.true in
    (c.clear.ensures ∙ done.0, done.1)
