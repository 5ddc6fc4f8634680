-- Laws of `served`: the states grow at the end, and the equations by which a loop serves one state after the other. Assumes nothing.
use mathlib.Core.Path.{◌≡◌, refl}
use mathlib.Core.Bool.{Bool}
use mathlib.Core.List.{List}
use Prim.Native.Nat.{ℕ, zero, suc, ◌≤◌, ◌<◌}
use lib.Dec.{leb}
use lib.ListN.{length, get_or}
use borrow.Author.Tests.{le-leb, lt-leb}
use Rattle.explore.specs.Explore.{Decides, met, served}
use Rattle.wire.proofs.Bool.{by_test}
use Rattle.explore.proofs.Distinct.{Distinct}
use Rattle.explore.proofs.Meeting.{Grows, grows_same, grows_trans, grows_length, met_grows, met_distinct}

module _ {A : Type 0} (same : A → A → Bool) (next : A → List A) (first : A) where
  pub served_step : (fuel i : ℕ) (xs : List A) → i < length xs
      → served same next first (suc fuel) i xs ≡ served same next first fuel (suc i) (met same (next (get_or xs i first)) xs)
  unfolding served
  served_step fuel i xs l = rw (lt-leb (length xs) i l)

  pub served_rest : (fuel i : ℕ) (xs : List A) → length xs ≤ i → served same next first fuel i xs ≡ xs
  unfolding served
  served_rest zero i xs l = refl
  served_rest (suc fuel) i xs l = rw (le-leb (length xs) i l)

  pub served_grows : (fuel i : ℕ) (xs : List A) → Grows xs (served same next first fuel i xs)
  unfolding served
  served_grows zero i xs = grows_same xs
  served_grows (suc fuel) i xs =
      let ys = met same (next (get_or xs i first)) xs in
      by_test (leb (length xs) i) (λ e. rw e (grows_same xs))
      (λ e. rw e (grows_trans (met_grows same (next (get_or xs i first)) xs) (served_grows fuel (suc i) ys)))

  pub served_length : (fuel i : ℕ) (xs : List A) → length xs ≤ length (served same next first fuel i xs)
  served_length fuel i xs = grows_length (served_grows fuel i xs)

module _ {A : Type 0} {same : A → A → Bool} (right : Decides same) (next : A → List A) (first : A) where
  pub served_distinct : (fuel i : ℕ) (xs : List A) → Distinct same xs → Distinct same (served same next first fuel i xs)
  unfolding served
  served_distinct zero i xs d = d
  served_distinct (suc fuel) i xs d =
      let ys = met same (next (get_or xs i first)) xs in
      by_test (leb (length xs) i) (λ e. rw e d)
      (λ e. rw e (served_distinct fuel (suc i) ys (met_distinct right (next (get_or xs i first)) xs d)))
