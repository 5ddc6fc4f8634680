-- Membership in lists, lists in which no two elements have the same key, and the pigeonhole: a list without repetition is no longer than one that holds
-- all its elements (`no_longer`), and has at most n elements where they are numbers below n (`distinct_below`). Assumes nothing.
use Rattle.std.proofs.Common.{◌≡◌, ℕ, zero, suc, ◌+◌, ◌<◌, ◌≤◌, Bool, true, false, cond, eqb, ◌⊎◌, List, [], ◌∷◌, ◌++◌, map, length, get_or, sym, refl, ap, ◌∙◌, inl, inr, le_of_suc-le-suc, not-suc-le-zero, arith, length-append, eqb-true}
use mathlib.Core.List.Memᴰ.{head as first}
use mathlib.Core.List.Memᴰ.{not-nil as none_in}
use mathlib.Core.List.Memᴰ.{tail as later}
use mathlib.Core.List.{Memᴰ as Mem}
use mathlib.Core.List.Memᴰ.{append_cases as in_either}
use mathlib.Core.List.Memᴰ.{cases_cons as first-or-later}
use mathlib.Core.List.Memᴰ.{append_left as in_front}
use mathlib.Core.List.Memᴰ.{append_right as in_back}
use mathlib.Core.List.Memᴰ.{of_map}
use borrow.Author.Tests.{eqb-false}
use Rattle.wire.proofs.Bool.{by_test}

-- What a test lets through.
pub in_cond : {A : Type 0} (s : A) (b : Bool) (l : List A) → Mem s (cond b l []) → (b ≡ true) × Mem s l
in_cond s true l m = (refl, m)
in_cond s false l m = absurd (none_in m)

pub cond_has : {A : Type 0} (s : A) (b : Bool) (l : List A) → b ≡ true → Mem s l → Mem s (cond b l [])
cond_has s b l e m = rw e m

pub get_or_in : {A : Type 0} (l : List A) (i : ℕ) (d : A) → i < length l → Mem (get_or l i d) l
get_or_in [] i d h = absurd (not-suc-le-zero h)
get_or_in (x ∷ xs) zero d h = first refl
get_or_in (x ∷ xs) (suc i) d h = later (get_or_in xs i d (le_of_suc-le-suc h))

-- The place of a member.
pub place_of : {A : Type 0} (l : List A) (x d : A) → Mem x l → (i : ℕ) × (i < length l) × (get_or l i d ≡ x)
place_of [] x d m = absurd (none_in m)
place_of {A} (y ∷ l) x d m = on (λ m'. place_of l x d m') (first-or-later m)
  where
    on : (Mem x l → (i : ℕ) × (i < length l) × (get_or l i d ≡ x)) → (x ≡ y) ⊎ Mem x l → (i : ℕ) × (i < suc (length l)) × (get_or (y ∷ l) i d ≡ x)
    on below (inl e) = (0, omega arith, sym e)
    on below (inr m') =
        let r = below m' in
        let b : r.0 < length l = r.1 in
        (suc r.0, omega arith, r.2)

-- No two places of a list have elements with the same key.
unfoldable pub Distinct : {A K : Type 0} → (key : A → K) → List A → Type 0
Distinct key [] = Unit {0}
Distinct {A} key (x ∷ xs) = ((y : A) → Mem y xs → key x ≡ key y → ⊥) × Distinct key xs

pub distinct_one : {A K : Type 0} (key : A → K) (x : A) → Distinct key (x ∷ [])
unfolding Distinct
distinct_one key x = ((λ y m e. none_in m), tt)

pub distinct_cond : {A K : Type 0} (key : A → K) (b : Bool) (l : List A) → Distinct key l → Distinct key (cond b l [])
unfolding Distinct
distinct_cond key true l h = h
distinct_cond key false l h = tt

pub distinct_append : {A K : Type 0} (key : A → K) (xs ys : List A) → Distinct key xs → Distinct key ys
    → ((x y : A) → Mem x xs → Mem y ys → key x ≡ key y → ⊥) → Distinct key (xs ++ ys)
unfolding Distinct
distinct_append key [] ys dx dy apart = dy
distinct_append {A} key (x ∷ xs) ys dx dy apart =
    ((λ y m e. on y e (in_either xs m)), distinct_append key xs ys dx.1 dy (λ a b m. apart a b (later m)))
  where
    on : (y : A) → key x ≡ key y → Mem y xs ⊎ Mem y ys → ⊥
    on y e (inl m) = dx.0 y m e
    on y e (inr m) = apart x y (first refl) m e

pub distinct_places : {A K : Type 0} (key : A → K) (l : List A) (d : A) (i j : ℕ) → Distinct key l → i < length l → j < length l
    → key (get_or l i d) ≡ key (get_or l j d) → i ≡ j
unfolding Distinct
distinct_places key [] d i j h p q e = absurd (not-suc-le-zero p)
distinct_places key (x ∷ xs) d zero zero h p q e = refl
distinct_places key (x ∷ xs) d zero (suc j) h p q e = absurd (h.0 (get_or xs j d) (get_or_in xs j d (le_of_suc-le-suc q)) e)
distinct_places key (x ∷ xs) d (suc i) zero h p q e = absurd (h.0 (get_or xs i d) (get_or_in xs i d (le_of_suc-le-suc p)) (sym e))
distinct_places key (x ∷ xs) d (suc i) (suc j) h p q e = ap suc (distinct_places key xs d i j h.1 (le_of_suc-le-suc p) (le_of_suc-le-suc q) e)

-- The other way round, for the elements themselves.
pub places_distinct : {A : Type 0} (l : List A) → ((i j : ℕ) (d : A) → i < length l → j < length l → get_or l i d ≡ get_or l j d → i ≡ j) → Distinct (λ x. x) l
unfolding Distinct
places_distinct [] once = tt
places_distinct {A} (x ∷ l) once =
    (apart, places_distinct l (λ i j d b b' e. let s : suc i ≡ suc j = once (suc i) (suc j) d (omega arith) (omega arith) e in omega arith))
  where
    apart : (y : A) → Mem y l → x ≡ y → ⊥
    apart y m e =
        let r = place_of l y x m in
        let b : r.0 < length l = r.1 in
        let z : 0 ≡ suc r.0 = once 0 (suc r.0) x (omega arith) (omega arith) (e ∙ sym r.2) in
        omega arith

-- What a function that keeps members apart gives has no repetition either.
pub map_distinct : {A B : Type 0} (f : A → B) (l : List A) → ((x y : A) → Mem x l → Mem y l → f x ≡ f y → x ≡ y) → Distinct (λ x. x) l
    → Distinct (λ x. x) (map f l)
unfolding Distinct
map_distinct f [] apart d = tt
map_distinct {A} {B} f (x ∷ l) apart d = (other, map_distinct f l (λ a b m k. apart a b (later m) (later k)) d.1)
  where
    other : (z : B) → Mem z (map f l) → f x ≡ z → ⊥
    other z m e =
        let o = of_map f l m in
        d.0 o.0 o.1 (apart x o.0 (first refl) (later o.1) (e ∙ sym o.2))

-- The pigeonhole

module _ {A : Type 0} where
  -- A list with a member taken out.
  record Without (x : A) (m : List A) : Type 0 where
    front : List A
    back : List A
    whole : m ≡ front ++ x ∷ back

  without : (x : A) (m : List A) → Mem x m → Without x m
  without x [] h = absurd (none_in h)
  without x (y ∷ m) h = on (λ h'. without x m h') (first-or-later h)
    where
      on : (Mem x m → Without x m) → (x ≡ y) ⊎ Mem x m → Without x (y ∷ m)
      on below (inl e) = record { front = []; back = m; whole = ap (λ (z : A). z ∷ m) (sym e) }
      on below (inr h') = let r : Without x m = below h' in record { front = y ∷ r.front; back = r.back; whole = ap (λ (l : List A). y ∷ l) r.whole }

  others_stay : (x y : A) (front back : List A) → Mem y (front ++ x ∷ back) → (x ≡ y → ⊥) → Mem y (front ++ back)
  others_stay x y front back h other = on (in_either front h)
    where
      behind : (y ≡ x) ⊎ Mem y back → Mem y (front ++ back)
      behind (inl e) = absurd (other (sym e))
      behind (inr m) = in_back front m

      on : Mem y front ⊎ Mem y (x ∷ back) → Mem y (front ++ back)
      on (inl m) = in_front back m
      on (inr m) = behind (first-or-later m)

  -- A list without repetition is no longer than one that holds all its elements.
  pub no_longer : (l m : List A) → Distinct (λ x. x) l → ((x : A) → Mem x l → Mem x m) → length l ≤ length m
  unfolding Distinct
  no_longer [] m d h = omega arith
  no_longer (x ∷ l) m d h =
      let r : Without x m = without x m (h x (first refl)) in
      let rest : List A = r.front ++ r.back in
      let fits : length l ≤ length rest =
      no_longer l rest d.1 (λ y k. others_stay x y r.front r.back (rw r.whole at (h y (later k))) (λ e. d.0 y k e)) in
      let long : length m ≡ length r.front + suc (length r.back) = ap length r.whole ∙ length-append r.front (x ∷ r.back) in
      omega (arith, length-append r.front r.back)

-- The numbers below n.
unfoldable below : (n : ℕ) → List ℕ
below zero = []
below (suc n) = n ∷ below n

length_below : (n : ℕ) → length (below n) ≡ n
unfolding below
length_below zero = refl
length_below (suc n) = ap suc (length_below n)

in_below : (n x : ℕ) → x < n → Mem x (below n)
unfolding below
in_below zero x h = absurd (not-suc-le-zero h)
in_below (suc n) x h = by_test (eqb x n) (λ e. first (eqb-true x n e)) (λ e. later (in_below n x (omega (arith, eqb-false x n e))))

pub distinct_below : (n : ℕ) (l : List ℕ) → Distinct (λ x. x) l → ((x : ℕ) → Mem x l → x < n) → length l ≤ n
distinct_below n l d b = omega (arith, no_longer l (below n) d (λ x m. in_below n x (b x m)), length_below n)
