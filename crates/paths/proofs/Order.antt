-- Path order, `before`, is a strict total order; lists of paths sorted by it. Assumes nothing.
use mathlib.Core.Path.{◌≡◌, refl, sym, ◌∙◌}
use mathlib.Core.Bool.{Bool, true, false, ◌&&◌, ◌||◌, cond}
use mathlib.Core.Logic.{◌⊎◌, inl, inr}
use mathlib.Core.List.{List, [], ◌∷◌, ◌++◌, map}
use mathlib.Core.List.Memᴰ.{head as first}
use mathlib.Core.List.Memᴰ.{not-nil as none_in}
use mathlib.Core.List.Memᴰ.{tail as later}
use mathlib.Core.List.{Memᴰ as Mem}
use mathlib.Core.List.Memᴰ.{append_cases as in_either}
use mathlib.Core.List.Memᴰ.{cases_cons as first-or-later}
use mathlib.Core.List.Memᴰ.{of_map}
use Prim.Native.Nat.{ℕ, zero, suc, ◌+◌, ◌≤◌, ◌<◌}
use native.Mathlib.Nat.{not-suc-le-zero, le_of_suc-le-suc}
use native.Mathlib.Omega.{arith}
use lib.Dec.{ltb, eqb}
use lib.ListN.{length, get_or}
use borrow.Author.Tests.{ltb-true, lt-ltb, le-ltb, eqb-true, eq-eqb, ltb-false}
use Rattle.wire.proofs.Bool.{and-true}
use Rattle.transducer.proofs.Members.{get_or_in, Distinct}
use Rattle.paths.specs.Count.{before}

-- before

pub before_cons : (i j : ℕ) (p q : List ℕ) → before (i ∷ p) (j ∷ q) ≡ true → (i < j) ⊎ ((i ≡ j) × (before p q ≡ true))
unfolding before
before_cons i j p q h = on (ltb i j) refl h
  where
    on : (b : Bool) → ltb i j ≡ b → b || (eqb i j && before p q) ≡ true → (i < j) ⊎ ((i ≡ j) × (before p q ≡ true))
    on true e h' = inl (ltb-true i j e)
    on false e h' = let both = and-true (eqb i j) (before p q) h' in inr (eqb-true i j both.0, both.1)

pub first_before : (i j : ℕ) (p q : List ℕ) → i < j → before (i ∷ p) (j ∷ q) ≡ true
unfolding before
first_before i j p q l = rw (lt-ltb i j l)

pub rest_before : (i : ℕ) (p q : List ℕ) → before p q ≡ true → before (i ∷ p) (i ∷ q) ≡ true
unfolding before
rest_before i p q h = rw (le-ltb i i (omega arith), eq-eqb i i refl, h)

pub nil_before : (j : ℕ) (q : List ℕ) → before [] (j ∷ q) ≡ true
unfolding before
nil_before j q = refl

pub before_irreflexive : (p : List ℕ) → before p p ≡ true → ⊥
unfolding before
before_irreflexive [] h = let z : ◌≡◌ {A = ℕ} 0 1 = cc in omega arith
before_irreflexive (i ∷ p) h = on (λ h'. before_irreflexive p h') (before_cons i i p p h)
  where
    on : (before p p ≡ true → ⊥) → (i < i) ⊎ ((i ≡ i) × (before p p ≡ true)) → ⊥
    on below (inl l) = omega arith
    on below (inr (e, h')) = below h'

pub before_transitive : (p q r : List ℕ) → before p q ≡ true → before q r ≡ true → before p r ≡ true
unfolding before
before_transitive p [] r h k = let z : ◌≡◌ {A = ℕ} 0 1 = cc in absurd (omega arith)
before_transitive p (j ∷ q) [] h k = let z : ◌≡◌ {A = ℕ} 0 1 = cc in absurd (omega arith)
before_transitive [] (j ∷ q) (m ∷ r) h k = refl
before_transitive (i ∷ p) (j ∷ q) (m ∷ r) h k = on (λ h' k'. before_transitive p q r h' k') (before_cons i j p q h) (before_cons j m q r k)
  where
    on : (before p q ≡ true → before q r ≡ true → before p r ≡ true) → (i < j) ⊎ ((i ≡ j) × (before p q ≡ true))
        → (j < m) ⊎ ((j ≡ m) × (before q r ≡ true)) → before (i ∷ p) (m ∷ r) ≡ true
    on below (inl l) (inl l') = first_before i m p r (omega arith)
    on below (inl l) (inr e') = let same : j ≡ m = e'.0 in first_before i m p r (omega arith)
    on below (inr e) (inl l') = let same : i ≡ j = e.0 in first_before i m p r (omega arith)
    on below (inr e) (inr e') =
        let same : i ≡ m = e.0 ∙ e'.0 in
        rw same (rest_before m p r (below e.1 e'.1))

-- The three cases of a comparison.
pub data Compared (p q : List ℕ) : Type 0 where
  earlier : before p q ≡ true → Compared p q
  same : p ≡ q → Compared p q
  after : before q p ≡ true → Compared p q

pub before_total : (p q : List ℕ) → Compared p q
before_total [] [] = same refl
before_total [] (j ∷ q) = earlier (nil_before j q)
before_total (i ∷ p) [] = after (nil_before i p)
before_total (i ∷ p) (j ∷ q) = on (before_total p q) (ltb i j) refl (ltb j i) refl
  where
    on : Compared p q → (b : Bool) → ltb i j ≡ b → (c : Bool) → ltb j i ≡ c → Compared (i ∷ p) (j ∷ q)
    on below true e c d = earlier (first_before i j p q (ltb-true i j e))
    on below false e true d = after (first_before j i q p (ltb-true j i d))
    on below false e false d =
        let up : j ≤ i = ltb-false i j e in
        let down : i ≤ j = ltb-false j i d in
        let level : i ≡ j = omega arith in
        next below level
      where
        next : Compared p q → i ≡ j → Compared (i ∷ p) (j ∷ q)
        next (earlier h) level = earlier (rw level (rest_before j p q h))
        next (same h) level = same (rw (level, h))
        next (after h) level = after (rw level (rest_before j q p h))

-- Sorted

-- The path comes before the first of a list.
unfoldable pub Leads : List ℕ → List (List ℕ) → Type 0
Leads p [] = Unit {0}
Leads p (q ∷ l) = before p q ≡ true

-- Each path comes before the next.
unfoldable pub Sorted : List (List ℕ) → Type 0
Sorted [] = Unit {0}
Sorted (p ∷ l) = Leads p l × Sorted l

pub sorted_nil : Sorted []
unfolding Sorted
sorted_nil = tt

pub sorted_tail : (p : List ℕ) (l : List (List ℕ)) → Sorted (p ∷ l) → Sorted l
unfolding Sorted
sorted_tail p l s = s.1

-- The first comes before all the others.
pub sorted_head : (p : List ℕ) (l : List (List ℕ)) → Sorted (p ∷ l) → (q : List ℕ) → Mem q l → before p q ≡ true
unfolding Sorted Leads
sorted_head p [] s q m = absurd (none_in m)
sorted_head p (r ∷ l) s q m = on (λ m'. sorted_head r l s.1 q m') (first-or-later m)
  where
    on : (Mem q l → before r q ≡ true) → (q ≡ r) ⊎ Mem q l → before p q ≡ true
    on below (inl e) = rw e s.0
    on below (inr m') = before_transitive p r q s.0 (below m')

pub sorted_cons : (p : List ℕ) (l : List (List ℕ)) → ((q : List ℕ) → Mem q l → before p q ≡ true) → Sorted l → Sorted (p ∷ l)
unfolding Sorted Leads
sorted_cons p [] h s = (tt, s)
sorted_cons p (q ∷ l) h s = (h q (first refl), s)

pub sorted_append : (xs ys : List (List ℕ)) → Sorted xs → Sorted ys → ((p q : List ℕ) → Mem p xs → Mem q ys → before p q ≡ true) → Sorted (xs ++ ys)
sorted_append [] ys sx sy h = sy
sorted_append (p ∷ xs) ys sx sy h =
    sorted_cons p (xs ++ ys) (λ q m. on q (in_either xs m)) (sorted_append xs ys (sorted_tail p xs sx) sy (λ a b m. h a b (later m)))
  where
    on : (q : List ℕ) → Mem q xs ⊎ Mem q ys → before p q ≡ true
    on q (inl m) = sorted_head p xs sx q m
    on q (inr m) = h p q (first refl) m

pub sorted_map_cons : (i : ℕ) (l : List (List ℕ)) → Sorted l → Sorted (map (λ p. i ∷ p) l)
sorted_map_cons i [] s = s
sorted_map_cons i (p ∷ l) s =
    sorted_cons (i ∷ p) (map (λ q. i ∷ q) l) (λ r m. on r (of_map (λ q. i ∷ q) l m)) (sorted_map_cons i l (sorted_tail p l s))
  where
    on : (r : List ℕ) → (q : List ℕ) × Mem q l × (i ∷ q ≡ r) → before (i ∷ p) r ≡ true
    on r (q, m, e) = rw (← e) (rest_before i p q (sorted_head p l s q m))

pub sorted_distinct : (l : List (List ℕ)) → Sorted l → Distinct (λ p. p) l
unfolding Distinct
sorted_distinct [] s = tt
sorted_distinct (p ∷ l) s =
    ((λ q m e. before_irreflexive p (rw (← e) at (sorted_head p l s q m))), sorted_distinct l (sorted_tail p l s))

pub sorted_places : (l : List (List ℕ)) (i j : ℕ) → Sorted l → i < j → j < length l → before (get_or l i []) (get_or l j []) ≡ true
sorted_places [] i j s h b = absurd (not-suc-le-zero b)
sorted_places (p ∷ l) i zero s h b = absurd (not-suc-le-zero h)
sorted_places (p ∷ l) zero (suc j) s h b = sorted_head p l s (get_or l j []) (get_or_in l j [] (le_of_suc-le-suc b))
sorted_places (p ∷ l) (suc i) (suc j) s h b = sorted_places l i j (sorted_tail p l s) (le_of_suc-le-suc h) (le_of_suc-le-suc b)

pub before_asymmetric : (p q : List ℕ) → before p q ≡ true → before q p ≡ false
before_asymmetric p q h = on (before q p) refl
  where
    on : (b : Bool) → before q p ≡ b → before q p ≡ false
    on true e = absurd (before_irreflexive p (before_transitive p q p h e))
    on false e = e

-- How many paths of a list come before a path.
unfoldable pub many_before : (p : List ℕ) → List (List ℕ) → ℕ
many_before p [] = 0
many_before p (q ∷ l) = cond (before q p) 1 0 + many_before p l

none_before : (p : List ℕ) (l : List (List ℕ)) → ((q : List ℕ) → Mem q l → before q p ≡ false) → many_before p l ≡ 0
unfolding many_before
none_before p [] h = refl
none_before p (q ∷ l) h = rw (h q (first refl), none_before p l (λ r m. h r (later m)))

-- The path at place k of a sorted list is the one with k before it.
pub sorted_many_before : (l : List (List ℕ)) (k : ℕ) → Sorted l → k < length l → many_before (get_or l k []) l ≡ k
unfolding many_before
sorted_many_before [] k s b = absurd (not-suc-le-zero b)
sorted_many_before (p ∷ l) zero s b =
    let here : before p p ≡ false = on (before p p) refl in
    rw (here, none_before p l (λ q m. before_asymmetric p q (sorted_head p l s q m)))
  where
    on : (c : Bool) → before p p ≡ c → before p p ≡ false
    on true e = absurd (before_irreflexive p e)
    on false e = e
sorted_many_before (p ∷ l) (suc k) s b =
    let below : k < length l = le_of_suc-le-suc b in
    let here : before p (get_or l k []) ≡ true = sorted_head p l s (get_or l k []) (get_or_in l k [] below) in
    let rest : many_before (get_or l k []) l ≡ k = sorted_many_before l k (sorted_tail p l s) below in
    rw (here, rest) (omega arith)

-- Two sorted lists with the same members are the same.
pub sorted_same : (l m : List (List ℕ)) → Sorted l → Sorted m → ((p : List ℕ) → Mem p l → Mem p m) → ((p : List ℕ) → Mem p m → Mem p l) → l ≡ m
sorted_same [] [] s u f g = refl
sorted_same [] (q ∷ m) s u f g = absurd (none_in (g q (first refl)))
sorted_same (p ∷ l) [] s u f g = absurd (none_in (f p (first refl)))
sorted_same (p ∷ l) (q ∷ m) s u f g =
    let e : p ≡ q = heads (first-or-later (f p (first refl))) (first-or-later (g q (first refl))) in
    let rest : l ≡ m =
    sorted_same l m (sorted_tail p l s) (sorted_tail q m u) (λ r h. there r e h (first-or-later (f r (later h))))
    (λ r h. back r e h (first-or-later (g r (later h)))) in
    rw (e, rest)
  where
    heads : (p ≡ q) ⊎ Mem p m → (q ≡ p) ⊎ Mem q l → p ≡ q
    heads (inl e) h = e
    heads (inr h) (inl e) = sym e
    heads (inr h) (inr k) = absurd (before_irreflexive p (before_transitive p q p (sorted_head p l s q k) (sorted_head q m u p h)))

    there : (r : List ℕ) → p ≡ q → Mem r l → (r ≡ q) ⊎ Mem r m → Mem r m
    there r e h (inl k) = absurd (before_irreflexive r (rw (e ∙ sym k) at (sorted_head p l s r h)))
    there r e h (inr k) = k

    back : (r : List ℕ) → p ≡ q → Mem r m → (r ≡ p) ⊎ Mem r l → Mem r l
    back r e h (inl k) = absurd (before_irreflexive r (rw (sym e ∙ sym k) at (sorted_head q m u r h)))
    back r e h (inr k) = k
