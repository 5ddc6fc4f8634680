-- Lists in which no element stands twice: what follows for places, and the pigeonhole law. Assumes nothing.
use mathlib.Core.Path.{◌≡◌, refl, ap}
use mathlib.Core.Bool.{Bool, true, false}
use mathlib.Core.List.{List, [], ◌∷◌, ◌++◌}
use Prim.Native.Nat.{ℕ, zero, suc, ◌≤◌, ◌<◌}
use native.Mathlib.Omega.{arith}
use lib.ListN.{length, get_or, take}
use Rattle.wire.proofs.Bool.{by_test, clash, is_false}
use Rattle.transducer.proofs.Members.{Distinct as Apart, no_longer}
use Rattle.explore.specs.Explore.{Decides, there, place}
use Rattle.explore.proofs.Member.{
  At,
  Mem,
  mem_in,
  in_mem,
  get_d_at,
  there_append,
  at_there,
  there_mem,
  mem_here,
  mem_later,
  mem_take,
  not_there_not_mem,
  there_at,
}

-- No element stands twice.
abbrev pub Distinct : {A : Type 0} → (same : A → A → Bool) → List A → Type 0
Distinct same [] = Unit
Distinct same (x ∷ xs) = (there same x xs ≡ false) × Distinct same xs

module _ {A : Type 0} {same : A → A → Bool} (right : Decides same) where
  pub distinct_append : (xs ys : List A) → Distinct same xs → Distinct same ys → ((x : A) → Mem x xs → there same x ys ≡ false)
      → Distinct same (xs ++ ys)
  distinct_append [] ys d e apart = e
  distinct_append (x ∷ xs) ys d e apart =
      let new : there same x (xs ++ ys) ≡ false = rw (there_append same x xs ys, d.0) (apart x (mem_here x xs)) in
      (new, distinct_append xs ys d.1 e (λ z m. apart z (mem_later x m)))

  pub distinct_snoc : (xs : List A) (y : A) → Distinct same xs → there same y xs ≡ false → Distinct same (xs ++ (y ∷ []))
  unfolding there
  distinct_snoc xs y d h = distinct_append xs (y ∷ []) d (refl, tt) apart
    where
      apart : (x : A) → Mem x xs → there same x (y ∷ []) ≡ false
      apart x m =
          by_test (same x y)
          (λ e. let q : x ≡ y = right.sound x y e in absurd (not_there_not_mem right x xs (rw (← q) at h) m))
          (λ e. rw e)

  pub distinct_take : (n : ℕ) (xs : List A) → Distinct same xs → Distinct same (take n xs)
  distinct_take zero xs d = tt
  distinct_take (suc n) [] d = tt
  distinct_take (suc n) (x ∷ xs) d = (
    is_false (there same x (take n xs)) (λ h. not_there_not_mem right x xs d.0 (mem_take n xs (there_mem right x (take n xs) h))),
    distinct_take n xs d.1,
  )

  -- In such a list each element has one place.
  pub distinct_at : (xs : List A) (i j : ℕ) (x : A) → Distinct same xs → At xs i x → At xs j x → i ≡ j
  distinct_at [] i j x d h k = absurd h
  distinct_at (y ∷ ys) zero zero x d h k = refl
  distinct_at (y ∷ ys) zero (suc j) x d h k = clash (at_there right ys j x k) (rw h at d.0)
  distinct_at (y ∷ ys) (suc i) zero x d h k = clash (at_there right ys i x h) (rw k at d.0)
  distinct_at (y ∷ ys) (suc i) (suc j) x d h k = ap suc (distinct_at ys i j x d.1 h k)

  -- And a list in which each element has one place is such a list.
  pub at_distinct : (xs : List A) → ((i j : ℕ) (x : A) → At xs i x → At xs j x → i ≡ j) → Distinct same xs
  at_distinct [] h = tt
  at_distinct (x ∷ xs) h = (is_false (there same x xs) twice, at_distinct xs (λ i j y p q. let e : suc i ≡ suc j = h (suc i) (suc j) y p q in omega arith))
    where
      twice : there same x xs ≡ true → ⊥
      twice t =
          let m = there_mem right x xs t in
          let e : 0 ≡ suc m.number = h 0 (suc m.number) x refl m.stands in
          omega arith

  pub place_at : (xs : List A) (i : ℕ) (x : A) → Distinct same xs → At xs i x → place same x xs ≡ i
  place_at xs i x d h = distinct_at xs (place same x xs) i x d (there_at right x xs (at_there right xs i x h)) h

  pub place_of_get_or : (xs : List A) (i : ℕ) (z : A) → Distinct same xs → i < length xs → place same (get_or xs i z) xs ≡ i
  place_of_get_or xs i z d l = place_at xs i (get_or xs i z) d (get_d_at xs i z l)

  -- By elements rather than by the test.
  distinct_apart : (xs : List A) → Distinct same xs → Apart (λ x. x) xs
  unfolding Apart
  distinct_apart [] d = tt
  distinct_apart (x ∷ xs) d = ((λ y m e. not_there_not_mem right x xs d.0 (rw (← e) at (in_mem m))), distinct_apart xs d.1)

  -- Pigeonhole: such a list is no longer than a list that holds all its elements.
  pub distinct_length : (ys xs : List A) → Distinct same ys → ((x : A) → Mem x ys → Mem x xs) → length ys ≤ length xs
  distinct_length ys xs d h = no_longer ys xs (distinct_apart ys d) (λ x m. mem_in (h x (in_mem m)))
