-- The states that are numbered: each once, all of them reached, and all that are reached where they are at most 1,024. Assumes nothing.
use mathlib.Core.Path.{◌≡◌, refl, subst}
use mathlib.Core.Bool.{Bool}
use mathlib.Core.Logic.{⊎_elim, ◌↔◌}
use mathlib.Core.List.{List, [], ◌∷◌}
use Prim.Native.Nat.{ℕ, zero, suc, ◌+◌, ◌≤◌, ◌<◌}
use native.Mathlib.Nat.{not-suc-le-zero}
use native.Mathlib.Omega.{arith}
use lib.Dec.{leb, ltb}
use lib.ListN.{length, get_or, take}
use lib.Seq.{length-take-le}
use borrow.Author.Tests.{leb-true, leb-false, ltb-true, ltb-false}
use Rattle.transducer.specs.Format.{max_states}
use Rattle.explore.specs.Explore.{Decides, there, met, served, numbered}
use Rattle.wire.proofs.Bool.{by_test}
use Rattle.explore.proofs.Member.{At, Mem, at_length, at_get_or, mem_get_or, mem_take, mem_nil, mem_cons}
use Rattle.explore.proofs.Distinct.{Distinct, distinct_take, distinct_length}
use Rattle.explore.proofs.Meeting.{Grows, at_grows, grows_length, grows_get_or, grows_mem, met_grows, met_length, met_mem, mem_met}
use Rattle.explore.proofs.Serving.{served_grows, served_distinct}

-- A chain of next states leads from the first.
pub data Reach {A : Type 0} (next : A → List A) (first : A) : A → Type 0 where
  reach_first : Reach next first first
  reach_next : {x y : A} → Reach next first x → Mem y (next x) → Reach next first y

-- More than 1,024 states are reached.
pub record More {A : Type 0} (same : A → A → Bool) (next : A → List A) (first : A) : Type 0 where
  pub found : List A
  pub distinct : Distinct same found
  pub many : max_states < length found
  pub reached : (x : A) → Mem x found → Reach next first x

module _ {A : Type 0} (same : A → A → Bool) (next : A → List A) (first : A) where
  pub numbered_grows : Grows (first ∷ []) (numbered same next first)
  unfolding numbered
  numbered_grows = served_grows same next first (suc max_states) 0 (first ∷ [])

  pub numbered_some : 1 ≤ length (numbered same next first)
  numbered_some = grows_length numbered_grows

  pub numbered_first : (d : A) → get_or (numbered same next first) 0 d ≡ first
  numbered_first d = grows_get_or 0 d numbered_grows (omega arith)

  pub served_reached : (fuel i : ℕ) (xs : List A) → ((x : A) → Mem x xs → Reach next first x) → (x : A)
      → Mem x (served same next first fuel i xs) → Reach next first x
  unfolding served
  served_reached zero i xs h x m = h x m
  served_reached (suc fuel) i xs h x m =
      by_test (leb (length xs) i) (λ e. h x (rw e at m))
      (λ e. served_reached fuel (suc i) (met same (next (get_or xs i first)) xs) (more (leb-false (length xs) i e)) x (rw e at m))
    where
      more : i < length xs → (y : A) → Mem y (met same (next (get_or xs i first)) xs) → Reach next first y
      more l y k =
          ⊎_elim (h y) (λ n. reach_next (h (get_or xs i first) (mem_get_or xs i first l)) n) (met_mem same (next (get_or xs i first)) xs k)

  pub numbered_reached : (x : A) → Mem x (numbered same next first) → Reach next first x
  unfolding numbered
  numbered_reached x m = served_reached (suc max_states) 0 (first ∷ []) one x m
    where
      one : (y : A) → Mem y (first ∷ []) → Reach next first y
      one y k = ⊎_elim (λ e. subst (λ (z : A). Reach next first z) e reach_first) (λ n. absurd (mem_nil n)) (mem_cons k)

-- The next states of the first n of a list stand in the list too.
abbrev pub Closed : {A : Type 0} → (next : A → List A) → (n : ℕ) → List A → Type 0
Closed {A} next n xs = (i : ℕ) (x y : A) → i < n → At xs i x → Mem y (next x) → Mem y xs

module _ {A : Type 0} {same : A → A → Bool} (right : Decides same) (next : A → List A) (first : A) where
  pub met_closed : (i : ℕ) (xs : List A) → i < length xs → Closed next i xs → Closed next (suc i) (met same (next (get_or xs i first)) xs)
  met_closed i xs l c j x y small h m =
      let g : Grows xs (met same (next (get_or xs i first)) xs) = met_grows same (next (get_or xs i first)) xs in
      let old : At xs j x = at_grows j x g (omega arith) h in
      by_test (ltb j i) (λ e. grows_mem g (c j x y (ltb-true j i e) old m))
      (λ e. let last : i ≡ j = omega (arith, ltb-false j i e) in
      let q : get_or xs i first ≡ x = (rw last (at_get_or xs j x first old)) in
      mem_met right (next (get_or xs i first)) xs (rw q m))

  pub served_closed : (fuel i : ℕ) (xs : List A) → i ≤ length xs → Closed next i xs → length (served same next first fuel i xs) < i + fuel
      → Closed next (length (served same next first fuel i xs)) (served same next first fuel i xs)
  unfolding served
  served_closed zero i xs l c short = absurd (omega arith)
  served_closed (suc fuel) i xs l c short =
      let ys = met same (next (get_or xs i first)) xs in
      by_test (leb (length xs) i)
      (λ e. let all : length xs ≤ i = leb-true (length xs) i e in rw e (λ j x y b. c j x y (omega arith)))
      (λ e. let more : i < length xs = leb-false (length xs) i e in
      let grown : length xs ≤ length ys = met_length same (next (get_or xs i first)) xs in
      let small : length (served same next first fuel (suc i) ys) < i + suc fuel = rw e at short in
      rw e (served_closed fuel (suc i) ys (omega arith) (met_closed i xs more c) (omega arith)))

  pub numbered_distinct : Distinct same (numbered same next first)
  unfolding numbered there
  numbered_distinct = served_distinct right next first (suc max_states) 0 (first ∷ []) (refl, tt)

  pub numbered_closed : length (numbered same next first) ≤ max_states → (x y : A) → Mem x (numbered same next first) → Mem y (next x)
      → Mem y (numbered same next first)
  unfolding numbered
  numbered_closed few x y m n =
      served_closed (suc max_states) 0 (first ∷ []) (omega arith) (λ i z w b. absurd (not-suc-le-zero b)) (omega arith)
      m.number x y (at_length (numbered same next first) m.number x m.stands) m.stands n

  pub numbered_all : length (numbered same next first) ≤ max_states → (x : A) → Reach next first x → Mem x (numbered same next first)
  numbered_all few x reach_first = rw (numbered_first same next first first) at (mem_get_or (numbered same next first) 0 first (numbered_some same next first))
  numbered_all few x (reach_next {x = w} r n) = numbered_closed few w x (numbered_all few w r) n

  -- More than 1,024 states are numbered exactly where more than 1,024 are reached.
  pub numbered_over : max_states < length (numbered same next first)
      → (ys : List A) × Distinct same ys × (length ys ≡ suc max_states) × ((x : A) → Mem x ys → Reach next first x)
  numbered_over over =
      let xs : List A = numbered same next first in (
        take (suc max_states) xs,
        distinct_take right (suc max_states) xs numbered_distinct,
        length-take-le (suc max_states) xs over,
        λ x m. numbered_reached same next first x (mem_take (suc max_states) xs m),
      )

  pub reached_over : (ys : List A) → Distinct same ys → ((x : A) → Mem x ys → Reach next first x) → max_states < length ys
      → max_states < length (numbered same next first)
  reached_over ys d h over =
      let xs : List A = numbered same next first in
      by_test (leb (length xs) max_states)
      (λ e. let few : length xs ≤ max_states = leb-true (length xs) max_states e in
      let long : length ys ≤ length xs = distinct_length right ys xs d (λ x m. numbered_all few x (h x m)) in
      omega arith)
      (λ e. leb-false (length xs) max_states e)

  pub numbered_more : (max_states < length (numbered same next first)) ↔ More same next first
  numbered_more = (
    λ over. let r = numbered_over over in
        let long : max_states < length r.0 = omega (arith, r.2) in
        record { found = r.0; distinct = r.1; many = long; reached = r.3 },
    λ m. reached_over m.found m.distinct m.reached m.many,
  )
