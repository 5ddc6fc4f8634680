-- What an answer of costs to come says of the paths, from its contract (paper 02, Points 2 and 8). Assumes nothing.
use mathlib.Core.Path.{◌≡◌, refl, sym, ap, ◌∙◌}
use mathlib.Core.Bool.{true, false, cond}
use mathlib.Core.Logic.{◌↔◌}
use mathlib.Core.List.{List}
use Prim.Native.Nat.{ℕ, ◌≤◌, ◌<◌}
use native.Mathlib.Omega.{arith}
use lib.Dec.{ltb}
use lib.ListN.{length}
use borrow.Author.Tests.{le-ltb}
use Rattle.wire.specs.Bytes.{padded, signed_filled}
use Rattle.wire.proofs.Bool.{by_test, is_false, raised_last}
use Rattle.wire.proofs.Places.{get_or_places, get_or_padded}
use Rattle.transducer.specs.Format.{Transducer, max_states, refusal, decode}
use Rattle.transducer.specs.Weight.{Weight, no_weight}
use Rattle.transducer.proofs.Weights.{sums}
use Rattle.transducer.proofs.Answers.{none_or_else, weights_left_in_none}
use Rattle.reach.proofs.Sized.{Sized, sized}
use Rattle.cycles.specs.Cycles.{NegativeCycleFrom, SomeNegativeCycle, anywhere, negative_cycle_anywhere}
use Rattle.cycles.proofs.NegativeCycles.{true_anywhere, anywhere_true}
use Rattle.cycles.proofs.NoLeast.{no_least}
use Rattle.distance.specs.Distance.{least_to_come}
use Rattle.relax.specs.Tentative.{cost_at}
use Rattle.distance.specs.Entry.{costs_refusal, costs_to_come, CostsSay}
use Rattle.distance.specs.Claim.{Answered, LeastFrom, NoLeastFrom, CellClaim, CostsClaim, CostsClaimed}
use Rattle.distance.proofs.ToCome.{cell_claimed}

-- A cell on success.
pub cell_is : (bs : List ℕ) (number r : ℕ) (a a' : List Weight) → CostsSay bs number r a a' → r ≡ 0 → (s : ℕ) → s < max_states
    → cost_at a' s ≡ least_to_come (decode bs) s
unfolding costs_to_come signed_filled
cell_is bs number r a a' says ok s h =
    let t : Transducer = decode bs in
    let none : number ≡ 0 = sym says.refusal_is ∙ ok in
    let put : a' ≡ padded no_weight (length a) (costs_to_come t) = says.cells_are ∙ weights_left_in_none number a (costs_to_come t) none in
    ap (λ (l : List Weight). cost_at l s) put
    ∙ (get_or_padded no_weight (length a) (costs_to_come t) s
    ∙ (get_or_places max_states 0 1 (least_to_come t) s no_weight h ∙ ap (least_to_come t) (omega arith)))

module _ (bs : List ℕ) (r : ℕ) (a a' : List Weight) (ok : refusal bs ≡ 0) (size : Sized (decode bs)) (room : max_states ≤ length a)
    (says : CostsSay bs (costs_refusal bs (length a)) r a a') where
  abbrev t : Transducer
  t = decode bs

  refused_is : r ≡ cond (negative_cycle_anywhere t) 19 0
  unfolding costs_refusal
  refused_is =
      says.refusal_is
      ∙ (none_or_else (refusal bs) (cond (ltb (length a) max_states) 10 (cond (negative_cycle_anywhere t) 19 0)) ok
      ∙ rw (le-ltb (length a) max_states room) refl)

  refused_19 : (s : ℕ) → NegativeCycleFrom t s → r ≡ 19
  refused_19 s f =
      let e : negative_cycle_anywhere t ≡ true = anywhere_true t size.within (record { state = s; marked = refl; negative_cycle = f }) in
      refused_is ∙ rw e refl

  falls : (r ≡ 19) ↔ ((s : ℕ) × NegativeCycleFrom t s)
  falls = (
    λ h. let f : SomeNegativeCycle t anywhere = true_anywhere t (raised_last (negative_cycle_anywhere t) 18 (sym refused_is
        ∙ h)) in (f.state, f.negative_cycle),
    λ f. refused_19 f.0 f.1,
  )

  -- A state without a least cost leads to such a cycle: else its cell would have the least, or no path would lead from it to a final state.
  no_least_falls : (s : ℕ) → NoLeastFrom t s → negative_cycle_anywhere t ≡ true
  no_least_falls s low = by_test (negative_cycle_anywhere t) (λ e. e) (λ rises. absurd (on rises))
    where
      on : negative_cycle_anywhere t ≡ false → ⊥
      on rises =
          let x : Weight = least_to_come t s in
          let k : CellClaim t s x = cell_claimed t size rises s in
          let one = low no_weight in
          let l : LeastFrom t s x = k.some (λ e. k.none.0 e one.0 one.1) in
          let less = low x in
          omega (arith, sums, l.least less.0 less.1, less.2)

  bottomless : (r ≡ 19) ↔ ((s : ℕ) × NoLeastFrom t s)
  bottomless = (
    λ h.
        let f : SomeNegativeCycle t anywhere = true_anywhere t (raised_last (negative_cycle_anywhere t) 18 (sym refused_is ∙ h)) in
        (f.state, λ w. let p = no_least t f.state f.negative_cycle w in (p.0, record { goes = p.1.goes; final = p.1.final }, p.2)),
    λ f. refused_is ∙ rw (no_least_falls f.0 f.1) refl,
  )

  told : (r ≡ 19 → ⊥) → (r ≡ 0) × ((s : ℕ) → s < max_states → CellClaim t s (cost_at a' s))
  told not-19 =
      let rises : negative_cycle_anywhere t ≡ false = is_false (negative_cycle_anywhere t) (λ e. not-19 (refused_is ∙ rw e refl)) in
      let none : r ≡ 0 = refused_is ∙ rw rises refl in
      (none, λ s h. rw (cell_is bs (costs_refusal bs (length a)) r a a' says none s h) (cell_claimed t size rises s))

  claimed : CostsClaim t r a'
  claimed = record { falls = falls; bottomless = bottomless; told = told }

pub costs_claimed : {table : List ℕ} (x : Answered table) → CostsClaimed x
costs_claimed {table} x =
    claimed table x.call.answer x.call.cells x.call.cells_left x.accepted (sized table x.bytes x.accepted) x.call.room
    x.call.says
