-- What `costs_to_come` and `costs_accepted` answer, case by case: a refusal of 1 to 8, too few cells, 19, and success. Assumes nothing.
use mathlib.Core.Path.{◌≡◌, refl, sym, ap, ◌∙◌}
use mathlib.Core.Bool.{Bool, true, false, cond}
use mathlib.Core.List.{List}
use Prim.Native.Nat.{ℕ, ◌+◌, ◌*◌, ◌≤◌, ◌<◌}
use native.Mathlib.Omega.{arith}
use borrow.Author.Tests.{ne_eqb, lt-ltb, le-ltb, ltb-true, ltb-false}
use lib.Dec.{eqb, ltb}
use lib.ListN.{length}
use Rattle.wire.specs.Bytes.{places, signed_filled}
use Rattle.wire.proofs.Places.{places_same}
use Rattle.transducer.specs.Format.{Transducer, max_states, decode, refusal}
use Rattle.transducer.specs.Entry.{or_else, weights_left_in}
use Rattle.transducer.specs.Weight.{Weight}
use Rattle.reach.proofs.Sized.{Sized}
use Rattle.cycles.specs.Cycles.{anywhere, negative_cycle_anywhere}
use Rattle.cycles.proofs.NegativeCycles.{anywhere_true}
use Rattle.distance.specs.Distance.{no_path, least_to_come}
use Rattle.relax.specs.Tentative.{Sizes, cost_at, by_state}
use Rattle.distance.specs.Ended.{cost_told, DistancesSay}
use Rattle.distance.specs.Entry.{accepted_costs_refusal, costs_refusal, costs_to_come, CostsSay, cost_or_none}
use Rattle.distance.proofs.ToCome.{past_none}
use Rattle.distance.proofs.Settled.{settled_rises}

refused : (bs : List ℕ) (number r : ℕ) (a : List Weight) → number ≡ r → (r ≡ 0 → ⊥) → CostsSay bs number r a a
unfolding weights_left_in
refused bs number r a e nonzero = record { refusal_is = sym e; cells_are = rw (e, ne_eqb r 0 nonzero) refl }

module _ (bs : List ℕ) (a : List Weight) {n : ℕ} (e : n ≡ refusal bs) where
  -- 1 to 8
  pub costs_bad : (n ≡ 0 → ⊥) → CostsSay bs (costs_refusal bs (length a)) n a a
  unfolding costs_refusal or_else
  costs_bad nonzero =
      let rest : ℕ = cond (ltb (length a) max_states) 10 (accepted_costs_refusal (decode bs)) in
      let number : cond (eqb (refusal bs) 0) rest (refusal bs) ≡ n = rw (← e, ne_eqb n 0 nonzero) in
      refused bs (costs_refusal bs (length a)) n a number nonzero

  -- 10
  pub costs_short : n ≡ 0 → length a < max_states → CostsSay bs (costs_refusal bs (length a)) 10 a a
  unfolding costs_refusal or_else
  costs_short z l =
      let ok : refusal bs ≡ 0 = sym e ∙ z in
      refused bs (costs_refusal bs (length a)) 10 a (rw (ok, lt-ltb (length a) max_states l)) (λ q. omega arith)

  -- Accepted bytes and enough cells: answered as `costs_accepted` does.
  pub costs_passed : n ≡ 0 → max_states ≤ length a → {r : ℕ} {a' : List Weight} → CostsSay bs (accepted_costs_refusal (decode bs)) r a a'
      → CostsSay bs (costs_refusal bs (length a)) r a a'
  unfolding costs_refusal or_else
  costs_passed z l says = let ok : refusal bs ≡ 0 = sym e ∙ z in rw (ok, le-ltb (length a) max_states l) says

module _ (bs : List ℕ) (a : List Weight) {cs : List Weight} {ls : Sizes} {d : Bool} (size : Sized (decode bs))
    (says : DistancesSay (decode bs) anywhere cs ls d) where
  abbrev t : Transducer
  t = decode bs

  -- 19
  pub costs_fall : d ≡ false → CostsSay bs (accepted_costs_refusal (decode bs)) 19 a a
  costs_fall off = refused bs (accepted_costs_refusal t) 19 a (rw (anywhere_true t size.within (says.falls off))) (λ q. omega arith)

  -- The cells are the costs of the states, and none past the last.
  each : d ≡ true → (states : ℕ) → states ≡ t.states → (s : ℕ) → cost_or_none states cs s ≡ least_to_come t s
  unfolding cost_or_none
  each on states is s = at (ltb s states) refl
    where
      at : (b : Bool) → ltb s states ≡ b → cond b (cost_told (cost_at cs s)) no_path ≡ least_to_come t s
      at true h = says.least on s (omega (arith, ltb-true s states h)) refl
      at false h = sym (past_none t size s (omega (arith, ltb-false s states h)))

  rises : d ≡ true → negative_cycle_anywhere t ≡ false
  unfolding negative_cycle_anywhere
  rises on = settled_rises t size anywhere (cost_at cs) (by_state ls) (says.settled on)

  pub costs_told : d ≡ true → {states : ℕ} {a' : List Weight} → states ≡ t.states
      → a' ≡ signed_filled (length a) (places max_states 0 1 (cost_or_none states cs)) → CostsSay bs (accepted_costs_refusal (decode bs)) 0 a a'
  unfolding costs_to_come weights_left_in
  costs_told on {states} {a'} is put =
      let number : accepted_costs_refusal t ≡ 0 = rw (rises on) in
      let same : places max_states 0 1 (cost_or_none states cs) ≡ places max_states 0 1 (least_to_come t) =
      places_same max_states 0 1 (cost_or_none states cs) (least_to_come t) (λ i b. each on states is (0 + 1 * i)) in
      record { refusal_is = sym number; cells_are = rw number (put ∙ ap (signed_filled (length a)) same) }
