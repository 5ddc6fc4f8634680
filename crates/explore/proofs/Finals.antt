-- Laws of `finals_from`: which states are final, with which weight, and in which order. Assumes nothing.
use mathlib.Core.Path.{◌≡◌, refl}
use mathlib.Core.Bool.{Bool, true, false}
use mathlib.Core.List.{List, [], ◌∷◌, ◌++◌}
use Prim.Native.Nat.{ℕ, zero, suc, ◌+◌, ◌≤◌, ◌<◌}
use native.Mathlib.Nat.{add-zero}
use native.Mathlib.Omega.{arith}
use lib.Dec.{ltb}
use lib.ListN.{length}
use borrow.Author.Tests.{eq-eqb, ne_eqb, lt-ltb, le-leb}
use Rattle.wire.specs.Bytes.{every}
use Rattle.transducer.specs.Format.{finals_rise}
use Rattle.transducer.specs.Path.{is_final, final_weight}
use Rattle.transducer.specs.Weight.{Weight}
use Rattle.explore.specs.Explore.{finals_from}
use Rattle.wire.proofs.Bool.{by_test}
use Rattle.explore.proofs.Member.{At}

module _ {A : Type 0} (final : A → Bool) (weight : A → Weight) where
  pub finals_from_append : (i : ℕ) (xs ys : List A)
      → finals_from final weight i (xs ++ ys) ≡ finals_from final weight i xs ++ finals_from final weight (i + length xs) ys
  unfolding finals_from
  finals_from_append i [] ys = rw (add-zero i)
  finals_from_append i (x ∷ xs) ys =
      let e : suc i + length xs ≡ i + suc (length xs) = omega arith in
      by_test (final x) (λ f. rw (f, finals_from_append (suc i) xs ys, e)) (λ f. rw (f, finals_from_append (suc i) xs ys, e))

  -- No state below the first number is final.
  pub is_final_below : (i : ℕ) (xs : List A) (s : ℕ) → s < i → is_final (finals_from final weight i xs) s ≡ false
  unfolding finals_from is_final
  is_final_below i [] s l = refl
  is_final_below i (x ∷ xs) s l =
      let more : is_final (finals_from final weight (suc i) xs) s ≡ false = is_final_below (suc i) xs s (omega arith) in
      by_test (final x) (λ f. rw (f, ne_eqb i s (omega arith), more)) (λ f. rw (f, more))

  pub is_final_at : (i : ℕ) (xs : List A) (k : ℕ) (x : A) → At xs k x → is_final (finals_from final weight i xs) (i + k) ≡ final x
  unfolding finals_from is_final
  is_final_at i [] k x h = absurd h
  is_final_at i (y ∷ ys) zero x h =
      by_test (final y) (λ f. rw (← h, f, eq-eqb i (i + 0) (omega arith)))
      (λ f. rw (← h, f, is_final_below (suc i) ys (i + 0) (omega arith)))
  is_final_at i (y ∷ ys) (suc k) x h =
      let e : i + suc k ≡ suc i + k = omega arith in
      let more = is_final_at (suc i) ys k x h in
      by_test (final y) (λ f. rw (f, e, ne_eqb i (suc i + k) (omega arith), more)) (λ f. rw (f, e, more))

  pub final_weight_at : (i : ℕ) (xs : List A) (k : ℕ) (x : A) → At xs k x → final x ≡ true
      → final_weight (finals_from final weight i xs) (i + k) ≡ weight x
  unfolding finals_from final_weight
  final_weight_at i [] k x h q = absurd h
  final_weight_at i (y ∷ ys) zero x h q =
      let f : final y ≡ true = rw h q in
      rw (f, eq-eqb i (i + 0) (omega arith), h)
  final_weight_at i (y ∷ ys) (suc k) x h q =
      let e : i + suc k ≡ suc i + k = omega arith in
      let more = final_weight_at (suc i) ys k x h q in
      by_test (final y) (λ f. rw (f, e, ne_eqb i (suc i + k) (omega arith), more)) (λ f. rw (f, e, more))

  pub length_finals_from : (i : ℕ) (xs : List A) → length (finals_from final weight i xs) ≤ length xs
  unfolding finals_from
  length_finals_from i [] = omega arith
  length_finals_from i (x ∷ xs) =
      let more : length (finals_from final weight (suc i) xs) ≤ length xs = length_finals_from (suc i) xs in
      by_test (final x) (λ f. rw f (omega arith)) (λ f. rw f (omega arith))

  pub finals_from_rise : (floor i : ℕ) (xs : List A) → floor ≤ i → finals_rise floor (finals_from final weight i xs) ≡ true
  unfolding finals_from finals_rise
  finals_from_rise floor i [] l = refl
  finals_from_rise floor i (x ∷ xs) l =
      by_test (final x) (λ f. rw (f, le-leb floor i l, finals_from_rise (i + 1) (suc i) xs (omega arith)))
      (λ f. rw f (finals_from_rise floor (suc i) xs (omega arith)))

  pub finals_from_states : (n i : ℕ) (xs : List A) → i + length xs ≤ n → every (λ f. ltb f.state n) (finals_from final weight i xs) ≡ true
  unfolding finals_from every
  finals_from_states n i [] l = refl
  finals_from_states n i (x ∷ xs) l =
      let more : every (λ f. ltb f.state n) (finals_from final weight (suc i) xs) ≡ true = finals_from_states n (suc i) xs (omega arith) in
      by_test (final x) (λ f. rw (f, lt-ltb i n (omega arith), more)) (λ f. rw (f, more))
