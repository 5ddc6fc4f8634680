-- What stands at a place of a list, what is a member of it, and the laws of `there` and `place`. Assumes nothing.
use mathlib.Core.Path.{◌≡◌, refl, sym, ap, subst, ◌∙◌}
use mathlib.Core.Bool.{Bool, true, false, ◌||◌, or_assoc}
use mathlib.Core.Logic.{◌⊎◌, inl, inr}
use mathlib.Core.List.{List, [], ◌∷◌, ◌++◌, map}
use mathlib.Core.List.Memᴰ.{head as first}
use mathlib.Core.List.Memᴰ.{tail as later}
use mathlib.Core.List.{Memᴰ as In}
use Prim.Native.Nat.{ℕ, zero, suc, ◌+◌, ◌<◌}
use native.Mathlib.Nat.{not-suc-le-zero, le_of_suc-le-suc, zero-add, suc-add}
use native.Mathlib.Omega.{arith}
use lib.ListN.{length, get_or, take}
use Rattle.wire.proofs.Bool.{by_test, never, clash, or_false, or_right}
use Rattle.explore.specs.Explore.{Decides, there, place}

-- The element x stands at place i.
abbrev pub At : {A : Type 0} → List A → (i : ℕ) → A → Type 0
At [] i x = ⊥
At (y ∷ ys) zero x = y ≡ x
At (y ∷ ys) (suc i) x = At ys i x

pub record Mem {A : Type 0} (x : A) (xs : List A) : Type 0 where
  pub number : ℕ
  pub stands : At xs number x

module _ {A : Type 0} where
  pub at_length : (xs : List A) (i : ℕ) (x : A) → At xs i x → i < length xs
  at_length [] i x h = absurd h
  at_length (y ∷ ys) zero x h = omega arith
  at_length (y ∷ ys) (suc i) x h = let l : i < length ys = at_length ys i x h in omega arith

  pub at_get_or : (xs : List A) (i : ℕ) (x d : A) → At xs i x → get_or xs i d ≡ x
  at_get_or [] i x d h = absurd h
  at_get_or (y ∷ ys) zero x d h = h
  at_get_or (y ∷ ys) (suc i) x d h = at_get_or ys i x d h

  pub get_d_at : (xs : List A) (i : ℕ) (d : A) → i < length xs → At xs i (get_or xs i d)
  get_d_at [] i d l = absurd (not-suc-le-zero l)
  get_d_at (y ∷ ys) zero d l = refl
  get_d_at (y ∷ ys) (suc i) d l = get_d_at ys i d (le_of_suc-le-suc l)

  pub at_eq : (xs : List A) {i j : ℕ} (x : A) → i ≡ j → At xs i x → At xs j x
  at_eq xs x e h = subst (λ (k : ℕ). At xs k x) e h

  -- One place has one element.
  pub at_same : (xs : List A) (i : ℕ) (x y : A) → At xs i x → At xs i y → x ≡ y
  at_same [] i x y h k = absurd h
  at_same (z ∷ zs) zero x y h k = sym h ∙ k
  at_same (z ∷ zs) (suc i) x y h k = at_same zs i x y h k

  pub at_left : (xs ys : List A) (i : ℕ) (x : A) → At xs i x → At (xs ++ ys) i x
  at_left [] ys i x h = absurd h
  at_left (z ∷ zs) ys zero x h = h
  at_left (z ∷ zs) ys (suc i) x h = at_left zs ys i x h

  pub at_right : (xs ys : List A) (i : ℕ) (x : A) → At ys i x → At (xs ++ ys) (length xs + i) x
  at_right [] ys i x h = rw zero-add h
  at_right (z ∷ zs) ys i x h = rw suc-add (at_right zs ys i x h)

  pub at_append : (xs ys : List A) (i : ℕ) (x : A) → At (xs ++ ys) i x → At xs i x ⊎ ((j : ℕ) × (i ≡ length xs + j) × At ys j x)
  at_append [] ys i x h = inr (i, sym (zero-add i), h)
  at_append (z ∷ zs) ys zero x h = inl h
  at_append (z ∷ zs) ys (suc i) x h = on (at_append zs ys i x h)
    where
      on : At zs i x ⊎ ((j : ℕ) × (i ≡ length zs + j) × At ys j x)
          → At zs i x ⊎ ((j : ℕ) × (suc i ≡ suc (length zs) + j) × At ys j x)
      on (inl k) = inl k
      on (inr k) = let e : i ≡ length zs + k.0 = k.1 in inr (k.0, omega arith, k.2)

  pub at_take : (n : ℕ) (xs : List A) (i : ℕ) (x : A) → At (take n xs) i x → At xs i x
  at_take zero xs i x h = absurd h
  at_take (suc n) [] i x h = absurd h
  at_take (suc n) (y ∷ ys) zero x h = h
  at_take (suc n) (y ∷ ys) (suc i) x h = at_take n ys i x h

  pub mem_eq : {x y : A} {xs : List A} → x ≡ y → Mem x xs → Mem y xs
  mem_eq {x} {y} {xs} e m = subst (λ (z : A). Mem z xs) e m

  pub mem_nil : {x : A} → Mem x [] → ⊥
  mem_nil m = m.stands

  pub mem_here : (x : A) (xs : List A) → Mem x (x ∷ xs)
  mem_here x xs = record { number = 0; stands = refl }

  pub mem_later : {x : A} (y : A) {xs : List A} → Mem x xs → Mem x (y ∷ xs)
  mem_later y m = record { number = suc m.number; stands = m.stands }

  pub mem_cons : {x y : A} {xs : List A} → Mem x (y ∷ xs) → (y ≡ x) ⊎ Mem x xs
  mem_cons {x} {y} {xs} m = on m.number m.stands
    where
      on : (i : ℕ) → At (y ∷ xs) i x → (y ≡ x) ⊎ Mem x xs
      on zero h = inl h
      on (suc i) h = inr (record { number = i; stands = h })

  pub mem_get_or : (xs : List A) (i : ℕ) (d : A) → i < length xs → Mem (get_or xs i d) xs
  mem_get_or xs i d l = record { number = i; stands = get_d_at xs i d l }

  pub mem_left : {x : A} {xs : List A} (ys : List A) → Mem x xs → Mem x (xs ++ ys)
  mem_left {x} {xs} ys m = record { number = m.number; stands = at_left xs ys m.number x m.stands }

  pub mem_right : {x : A} (xs : List A) {ys : List A} → Mem x ys → Mem x (xs ++ ys)
  mem_right {x} xs {ys} m = record { number = length xs + m.number; stands = at_right xs ys m.number x m.stands }

  pub mem_append : {x : A} (xs ys : List A) → Mem x (xs ++ ys) → Mem x xs ⊎ Mem x ys
  mem_append {x} xs ys m = on (at_append xs ys m.number x m.stands)
    where
      on : At xs m.number x ⊎ ((j : ℕ) × (m.number ≡ length xs + j) × At ys j x) → Mem x xs ⊎ Mem x ys
      on (inl h) = inl (record { number = m.number; stands = h })
      on (inr h) = inr (record { number = h.0; stands = h.2 })

  pub mem_take : {x : A} (n : ℕ) (xs : List A) → Mem x (take n xs) → Mem x xs
  mem_take {x} n xs m = record { number = m.number; stands = at_take n xs m.number x m.stands }

  -- Standing at a place and mathlib's membership imply each other.
  pub mem_in : {x : A} {xs : List A} → Mem x xs → In x xs
  mem_in {x} {xs} m = on xs m.number m.stands
    where
      on : (ys : List A) (i : ℕ) → At ys i x → In x ys
      on [] i h = absurd h
      on (y ∷ ys) zero h = first (sym h)
      on (y ∷ ys) (suc i) h = later (on ys i h)

  pub in_mem : {x : A} {xs : List A} → In x xs → Mem x xs
  in_mem (first {xs = ys} e) = record { number = 0; stands = sym e }
  in_mem (later {x = y} m) = mem_later y (in_mem m)

module _ {A B : Type 0} (f : A → B) where
  pub at_map : (xs : List A) (i : ℕ) (x : A) → At xs i x → At (map f xs) i (f x)
  at_map [] i x h = absurd h
  at_map (y ∷ ys) zero x h = ap f h
  at_map (y ∷ ys) (suc i) x h = at_map ys i x h

  pub map_at : (xs : List A) (i : ℕ) (z : B) → At (map f xs) i z → (x : A) × At xs i x × (f x ≡ z)
  map_at [] i z h = absurd h
  map_at (y ∷ ys) zero z h = (y, refl, h)
  map_at (y ∷ ys) (suc i) z h = map_at ys i z h

  pub mem_map : {x : A} {xs : List A} → Mem x xs → Mem (f x) (map f xs)
  mem_map {x} {xs} m = record { number = m.number; stands = at_map xs m.number x m.stands }

  pub map_mem : {z : B} (xs : List A) → Mem z (map f xs) → (x : A) × Mem x xs × (f x ≡ z)
  map_mem {z} xs m =
      let r = map_at xs m.number z m.stands in
      (r.0, record { number = m.number; stands = r.1 }, r.2)

-- there and place

module _ {A : Type 0} (same : A → A → Bool) where
  pub there_append : (x : A) (xs ys : List A) → there same x (xs ++ ys) ≡ there same x xs || there same x ys
  unfolding there
  there_append x [] ys = refl
  there_append x (z ∷ zs) ys = rw (there_append x zs ys) (sym (or_assoc (same x z) (there same x zs) (there same x ys)))

  pub not_there_place : (x : A) (xs : List A) → there same x xs ≡ false → place same x xs ≡ length xs
  unfolding there place
  not_there_place x [] h = refl
  not_there_place x (y ∷ ys) h =
      let e = or_false (same x y) (there same x ys) h in
      rw (e.0, not_there_place x ys e.1)

  pub place_length : (x : A) (xs : List A) → there same x xs ≡ true → place same x xs < length xs
  unfolding there place
  place_length x [] h = never h
  place_length x (y ∷ ys) h =
      by_test (same x y) (λ e. rw e (omega arith))
      (λ e. let l : place same x ys < length ys = place_length x ys (rw e at h) in rw e (omega arith))

  -- What stands in front keeps its place when the list grows.
  pub place_left : (x : A) (xs ys : List A) → there same x xs ≡ true → place same x (xs ++ ys) ≡ place same x xs
  unfolding there place
  place_left x [] ys h = never h
  place_left x (z ∷ zs) ys h = by_test (same x z) (λ e. rw e) (λ e. rw e (ap suc (place_left x zs ys (rw e at h))))

  pub place_right : (x : A) (xs ys : List A) → there same x xs ≡ false → place same x (xs ++ ys) ≡ length xs + place same x ys
  unfolding there place
  place_right x [] ys h = sym (zero-add (place same x ys))
  place_right x (z ∷ zs) ys h =
      let e = or_false (same x z) (there same x zs) h in
      rw (e.0, suc-add, place_right x zs ys e.1)

module _ {A : Type 0} {same : A → A → Bool} (right : Decides same) where
  pub same_of_eq : (x y : A) → x ≡ y → same x y ≡ true
  same_of_eq x y e = rw (← e) (right.complete x)

  pub at_there : (xs : List A) (i : ℕ) (x : A) → At xs i x → there same x xs ≡ true
  unfolding there
  at_there [] i x h = absurd h
  at_there (y ∷ ys) zero x h = rw (same_of_eq x y (sym h))
  at_there (y ∷ ys) (suc i) x h = or_right (same x y) (there same x ys) (at_there ys i x h)

  pub mem_there : {x : A} {xs : List A} → Mem x xs → there same x xs ≡ true
  mem_there {x} {xs} m = at_there xs m.number x m.stands

  pub there_at : (x : A) (xs : List A) → there same x xs ≡ true → At xs (place same x xs) x
  unfolding there place
  there_at x [] h = never h
  there_at x (y ∷ ys) h =
      by_test (same x y) (λ e. rw e (sym (right.sound x y e))) (λ e. rw e (there_at x ys (rw e at h)))

  pub there_mem : (x : A) (xs : List A) → there same x xs ≡ true → Mem x xs
  there_mem x xs h = record { number = place same x xs; stands = there_at x xs h }

  pub place_get_or : (x : A) (xs : List A) (d : A) → there same x xs ≡ true → (place same x xs < length xs) × (get_or xs (place same x xs) d ≡ x)
  place_get_or x xs d h = (place_length same x xs h, at_get_or xs (place same x xs) x d (there_at x xs h))

  pub not_there_not_mem : (x : A) (xs : List A) → there same x xs ≡ false → Mem x xs → ⊥
  not_there_not_mem x xs h m = clash (mem_there m) h
