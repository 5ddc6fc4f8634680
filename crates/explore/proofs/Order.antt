-- The order of numbering: the states stand in the order in which following the steps, state after state, first meets them. Assumes nothing.
use mathlib.Core.Path.{◌≡◌, refl, sym, ap, subst, ◌∙◌}
use mathlib.Core.Bool.{Bool, true, false}
use mathlib.Core.Logic.{⊎_elim}
use mathlib.Core.List.{List, [], ◌∷◌, ◌++◌, map-append, append_assoc, append-nil}
use Prim.Native.Nat.{ℕ, zero, suc, ◌+◌, ◌≤◌, ◌<◌}
use native.Mathlib.Omega.{arith}
use lib.Dec.{leb}
use lib.ListN.{length, get_or, take}
use lib.Seq.{take_all, take-suc, take-append-le}
use borrow.Author.Tests.{leb-true, leb-false}
use Rattle.transducer.specs.Format.{max_states}
use Rattle.transducer.specs.Weight.{Weight}
use Rattle.explore.specs.Explore.{Step, Decides, Built, there, place, met, served, numbered, targets, steps_from, built}
use Rattle.wire.proofs.Bool.{by_test, clash}
use Rattle.explore.proofs.Member.{Mem, mem_left, mem_later, place_length, place_left, place_right}
use Rattle.explore.proofs.Distinct.{Distinct, distinct_snoc, place_of_get_or}
use Rattle.explore.proofs.Meeting.{Grows, grows_length, met_grows, met_append, met_mem}

-- The next states of each state of a list, one after the other.
unfoldable pub next_from : {A : Type 0} → (next : A → List A) → List A → List A
next_from next [] = []
next_from next (x ∷ xs) = next x ++ next_from next xs

pub next_from_append : {A : Type 0} (next : A → List A) (xs ys : List A) → next_from next (xs ++ ys) ≡ next_from next xs ++ next_from next ys
unfolding next_from
next_from_append next [] ys = refl
next_from_append next (x ∷ xs) ys = rw (next_from_append next xs ys, append_assoc)

pub targets_from : {A O : Type 0} (steps : A → List (Step A O)) (xs : List A)
    → targets (steps_from steps xs) ≡ next_from (λ x. targets (steps x)) xs
unfolding targets steps_from next_from
targets_from steps [] = refl
targets_from {A} {O} steps (x ∷ xs) =
    map-append (λ (s : Step A O). s.target) (steps x) (steps_from steps xs) ∙ ap (λ (l : List A). targets (steps x) ++ l) (targets_from steps xs)

module _ {A : Type 0} (same : A → A → Bool) (next : A → List A) (first : A) where
  -- The states met so far are those that serving the first i of them meets.
  abbrev SoFar : (i : ℕ) → List A → Type 0
  SoFar i xs = xs ≡ met same (next_from next (take i xs)) (first ∷ [])

  so_far_next : (i : ℕ) (xs : List A) → i < length xs → SoFar i xs → SoFar (suc i) (met same (next (get_or xs i first)) xs)
  unfolding next_from
  so_far_next i xs l e =
      let g : Grows xs (met same (next (get_or xs i first)) xs) = met_grows same (next (get_or xs i first)) xs in
      let front : take (suc i) (met same (next (get_or xs i first)) xs) ≡ take i xs ++ (get_or xs i first ∷ []) =
      ap (take (suc i)) g.whole ∙ take-append-le (suc i) xs g.added l ∙ take-suc xs i first l in
      let stream : next_from next (take (suc i) (met same (next (get_or xs i first)) xs)) ≡ next_from next (take i xs) ++ next (get_or xs i first) =
      ap (next_from next) front ∙ next_from_append next (take i xs) (get_or xs i first ∷ [])
      ∙ ap (λ (l : List A). next_from next (take i xs) ++ l) (append-nil (next (get_or xs i first))) in
      ap (met same (next (get_or xs i first))) e
      ∙ sym (met_append same (next_from next (take i xs)) (next (get_or xs i first)) (first ∷ []))
      ∙ ap (λ (l : List A). met same l (first ∷ [])) (sym stream)

  served_so_far : (fuel i : ℕ) (xs : List A) → i ≤ length xs → SoFar i xs → length (served same next first fuel i xs) < i + fuel
      → SoFar (length (served same next first fuel i xs)) (served same next first fuel i xs)
  unfolding served
  served_so_far zero i xs l e short = absurd (omega arith)
  served_so_far (suc fuel) i xs l e short =
      let ys = met same (next (get_or xs i first)) xs in
      by_test (leb (length xs) i)
      (λ b. let same_place : i ≡ length xs = omega (arith, leb-true (length xs) i b) in rw b (rw same_place at e))
      (λ b. let more : i < length xs = leb-false (length xs) i b in
      let grown : length xs ≤ length ys = grows_length (met_grows same (next (get_or xs i first)) xs) in
      let small : length (served same next first fuel (suc i) ys) < i + suc fuel = rw b at short in
      rw b (served_so_far fuel (suc i) ys (omega arith) (so_far_next i xs more e) (omega arith)))

  -- Serving all of them in turn meets them, in this order, and no others.
  pub numbered_met : length (numbered same next first) ≤ max_states
      → numbered same next first ≡ met same (next_from next (numbered same next first)) (first ∷ [])
  unfolding numbered met next_from
  numbered_met few =
      let xs : List A = numbered same next first in
      let e : SoFar (length xs) xs = served_so_far (suc max_states) 0 (first ∷ []) (omega arith) refl (omega arith) in
      e ∙ ap (λ (l : List A). met same (next_from next l) (first ∷ [])) (take_all (length xs) xs (omega arith))

module _ {A : Type 0} {same : A → A → Bool} (right : Decides same) where
  other_place : (x y : A) (xs ys : List A) → there same y xs ≡ true → there same x xs ≡ false → place same x (y ∷ ys) ≡ suc (place same x ys)
  unfolding place
  other_place x y xs ys h k =
      by_test (same x y) (λ e. let q : x ≡ y = right.sound x y e in clash h (rw q at k)) (λ e. rw e)

  -- One more of what stands in front changes no order.
  still_before : (x z y : A) (xs ys : List A) → there same y xs ≡ true → place same x (xs ++ ys) < place same z (xs ++ ys)
      → place same x (xs ++ (y ∷ ys)) < place same z (xs ++ (y ∷ ys))
  still_before x z y xs ys h l =
      by_test (there same x xs)
      (λ a. let in_front : place same x xs < length xs = place_length same x xs a in
      by_test (there same z xs)
      (λ b. rw (place_left same x xs (y ∷ ys) a, place_left same z xs (y ∷ ys) b)
      (rw (place_left same x xs ys a, place_left same z xs ys b) at l))
      (λ b. rw (place_left same x xs (y ∷ ys) a, place_right same z xs (y ∷ ys) b) (omega arith)))
      (λ a.
      by_test (there same z xs)
      (λ b. let in_front : place same z xs < length xs = place_length same z xs b in
      let k : length xs + place same x ys < place same z xs = rw (place_right same x xs ys a, place_left same z xs ys b) at l in
      absurd (omega arith))
      (λ b. let k : length xs + place same x ys < length xs + place same z ys = rw (place_right same x xs ys a, place_right same z xs ys b) at l in
      rw (
        place_right same x xs (y ∷ ys) a,
        place_right same z xs (y ∷ ys) b,
        other_place x y xs ys h a,
        other_place z y xs ys h b,
      ) (omega arith)))

  -- What is met stands in the order of first meeting.
  pub met_order : (ys xs : List A) → Distinct same xs → (d : A) (i j : ℕ) → i < j → j < length (met same ys xs)
      → place same (get_or (met same ys xs) i d) (xs ++ ys) < place same (get_or (met same ys xs) j d) (xs ++ ys)
  unfolding met
  met_order [] xs w d i j less l =
      rw (append-nil xs, place_of_get_or right xs i d w (omega arith), place_of_get_or right xs j d w l) less
  met_order (y ∷ ys) xs w d i j less l =
      by_test (there same y xs)
      (λ e. let k : j < length (met same ys xs) = rw e at l in
      rw e (still_before (get_or (met same ys xs) i d) (get_or (met same ys xs) j d) y xs ys e (met_order ys xs w d i j less k)))
      (λ e. let k : j < length (met same ys (xs ++ (y ∷ []))) = rw e at l in
      rw e (rw append_assoc at (met_order ys (xs ++ (y ∷ [])) (distinct_snoc right xs y w e) d i j less k)))

  -- The state of a lower number is first met before that of a higher one.
  pub numbered_order : (next : A → List A) (first : A) → length (numbered same next first) ≤ max_states → (d : A) (i j : ℕ) → i < j
      → j < length (numbered same next first)
      → place same (get_or (numbered same next first) i d) (first ∷ next_from next (numbered same next first))
      < place same (get_or (numbered same next first) j d) (first ∷ next_from next (numbered same next first))
  unfolding there
  numbered_order next first few d i j less =
      let xs : List A = numbered same next first in
      let stream : List A = first ∷ next_from next xs in
      subst (λ (l : List A). j < length l → place same (get_or l i d) stream < place same (get_or l j d) stream) (sym (numbered_met same next first few))
      (met_order (next_from next xs) (first ∷ []) (refl, tt) d i j less)

-- Each numbered state is met.
pub numbered_is_met : {A : Type 0} (same : A → A → Bool) (next : A → List A) (first : A) → length (numbered same next first) ≤ max_states → (x : A)
    → Mem x (numbered same next first) → Mem x (first ∷ next_from next (numbered same next first))
numbered_is_met {A} same next first few x m =
    let ys : List A = next_from next (numbered same next first) in
    ⊎_elim (λ h. mem_left ys h) (λ h. mem_later first h)
    (met_mem same ys (first ∷ []) (subst (λ (l : List A). Mem x l) (numbered_met same next first few) m))

module _ {A O : Type 0} {same : A → A → Bool} (right : Decides same) (steps : A → List (Step A O)) (final : A → Bool) (weight : A → Weight) (first : A) where
  abbrev b : Built A O
  b = built same steps final weight first

  -- What is met, in order: the first state, then where each arc leads.
  pub built_is_met : length b.states ≤ max_states → (x : A) → Mem x b.states → Mem x (first ∷ targets b.steps)
  unfolding built
  built_is_met few x m = rw (targets_from steps b.states) (numbered_is_met same (λ x. targets (steps x)) first few x m)

  pub built_first_met : length b.states ≤ max_states → (d : A) (i j : ℕ) → i < j → j < length b.states
      → place same (get_or b.states i d) (first ∷ targets b.steps) < place same (get_or b.states j d) (first ∷ targets b.steps)
  unfolding built
  built_first_met few d i j less l =
      rw (targets_from steps b.states) (numbered_order right (λ x. targets (steps x)) first few d i j less l)
