-- `better` is a strict order in which any two different paths compare; the best of a list stands in it, and none of the list is better. Assumes nothing.
use mathlib.Core.Path.{◌≡◌, refl}
use mathlib.Core.Bool.{Bool, true, false, ◌&&◌, ◌||◌, not, cond}
use mathlib.Core.Logic.{◌⊎◌, inl, inr}
use mathlib.Core.List.{List, [], ◌∷◌}
use mathlib.Core.List.Memᴰ.{head as first, not-nil as none_in}
use mathlib.Core.List.Memᴰ.{tail as later}
use mathlib.Core.List.{Memᴰ as Mem}
use mathlib.Core.List.Memᴰ.{cases_cons as first-or-later, eq_of_singleton as only}
use Prim.Native.Nat.{ℕ}
use borrow.Author.Tests.{not-true}
use Rattle.wire.proofs.Bool.{clash, is_false, and-true, true_and, or-true, or_left, or_right}
use Rattle.transducer.specs.Format.{Transducer}
use Rattle.transducer.specs.Path.{path_cost}
use Rattle.paths.specs.Count.{before}
use Rattle.paths.proofs.Order.{Compared, earlier, same, after, before_total, before_irreflexive, before_transitive}
use Rattle.relax.specs.Size.{size_of}
use Rattle.relax.specs.Tentative.{NoWorse, Nearer}
use Rattle.relax.proofs.Nearer.{nearer_true, true_nearer, nearer_false, false_nearer, nearer_no_worse, nearer_not, nearer_through, through_nearer, no_worse_through, no_worse_same}
use Rattle.shortest.specs.Shortest.{nearer_path, better, best_of, best}

-- A path against another, by cost and size.

abbrev pub Near : Transducer → (p q : List ℕ) → Type 0
Near t p q = NoWorse (path_cost t p) (size_of t p) (path_cost t q) (size_of t q)

pub path_nearer : (t : Transducer) (p q : List ℕ) → nearer_path t p q ≡ true → Nearer (path_cost t p) (size_of t p) (path_cost t q) (size_of t q)
unfolding nearer_path
path_nearer t p q h = nearer_true (path_cost t p) (size_of t p) (path_cost t q) (size_of t q) h

pub path_not_nearer : (t : Transducer) (p q : List ℕ) → nearer_path t p q ≡ false → Near t q p
unfolding nearer_path
path_not_nearer t p q h = nearer_false (path_cost t p) (size_of t p) (path_cost t q) (size_of t q) h

pub near_false : (t : Transducer) (p q : List ℕ) → Near t q p → nearer_path t p q ≡ false
unfolding nearer_path
near_false t p q n = false_nearer n

pub nearer_path_true : (t : Transducer) (p q : List ℕ) → Nearer (path_cost t p) (size_of t p) (path_cost t q) (size_of t q) → nearer_path t p q ≡ true
unfolding nearer_path
nearer_path_true t p q h = true_nearer (path_cost t p) (size_of t p) (path_cost t q) (size_of t q) h

-- The two ways for a path to be better.
pub data Wins (t : Transducer) (p q : List ℕ) : Type 0 where
  nearer_wins : Nearer (path_cost t p) (size_of t p) (path_cost t q) (size_of t q) → Wins t p q
  sooner : Near t p q → before p q ≡ true → Wins t p q

pub better_wins : (t : Transducer) (p q : List ℕ) → better t p q ≡ true → Wins t p q
unfolding better
better_wins t p q h = on (or-true (nearer_path t p q) (not (nearer_path t q p) && before p q) h)
  where
    on : (nearer_path t p q ≡ true) ⊎ (not (nearer_path t q p) && before p q ≡ true) → Wins t p q
    on (inl e) = nearer_wins (path_nearer t p q e)
    on (inr e) =
        let both = and-true (not (nearer_path t q p)) (before p q) e in
        sooner (path_not_nearer t q p (not-true (nearer_path t q p) both.0)) both.1

pub wins_better : (t : Transducer) (p q : List ℕ) → Wins t p q → better t p q ≡ true
unfolding better
wins_better t p q w = on w
  where
    on : Wins t p q → nearer_path t p q || (not (nearer_path t q p) && before p q) ≡ true
    on (nearer_wins h) = or_left (nearer_path t p q) (not (nearer_path t q p) && before p q) (nearer_path_true t p q h)
    on (sooner n h) =
        let level : not (nearer_path t q p) ≡ true = rw (near_false t q p n) refl in
        or_right (nearer_path t p q) (not (nearer_path t q p) && before p q) (true_and (not (nearer_path t q p)) (before p q) level h)

-- A strict order.

pub better_irreflexive : (t : Transducer) (p : List ℕ) → better t p p ≡ true → ⊥
better_irreflexive t p h = on (better_wins t p p h)
  where
    on : Wins t p p → ⊥
    on (nearer_wins n) = nearer_not n (no_worse_same (path_cost t p) (size_of t p))
    on (sooner n b) = before_irreflexive p b

pub not_better_same : (t : Transducer) (p : List ℕ) → better t p p ≡ false
not_better_same t p = is_false (better t p p) (better_irreflexive t p)

pub better_transitive : (t : Transducer) (p q r : List ℕ) → better t p q ≡ true → better t q r ≡ true → better t p r ≡ true
better_transitive t p q r a b = wins_better t p r (on (better_wins t p q a) (better_wins t q r b))
  where
    on : Wins t p q → Wins t q r → Wins t p r
    on (nearer_wins h) (nearer_wins k) = nearer_wins (nearer_through h (nearer_no_worse k))
    on (nearer_wins h) (sooner k e) = nearer_wins (nearer_through h k)
    on (sooner h e) (nearer_wins k) = nearer_wins (through_nearer h k)
    on (sooner h e) (sooner k f) = sooner (no_worse_through h k) (before_transitive p q r e f)

-- What it says of two paths that the first is not better.
pub record NotBetter (t : Transducer) (p q : List ℕ) : Type 0 where
  pub near : Near t q p
  pub order : Near t p q → before p q ≡ false

pub better_false : (t : Transducer) (p q : List ℕ) → better t p q ≡ false → NotBetter t p q
better_false t p q h = record { near = near (nearer_path t p q) refl; order = λ n. is_false (before p q) (λ b. clash (wins_better t p q (sooner n b)) h) }
  where
    near : (b : Bool) → nearer_path t p q ≡ b → Near t q p
    near true e = clash (wins_better t p q (nearer_wins (path_nearer t p q e))) h
    near false e = path_not_nearer t p q e

pub not_better : (t : Transducer) (p q : List ℕ) → NotBetter t p q → better t p q ≡ false
not_better t p q n = is_false (better t p q) (λ h. lost (better_wins t p q h))
  where
    lost : Wins t p q → ⊥
    lost (nearer_wins h) = nearer_not h n.near
    lost (sooner h b) = clash b (n.order h)

-- Of two different paths one is better.
pub better_total : (t : Transducer) (p q : List ℕ) → better t p q ≡ false → (p ≡ q) ⊎ (better t q p ≡ true)
better_total t p q h = on (nearer_path t q p) refl
  where
    n : NotBetter t p q
    n = better_false t p q h

    level : Near t p q → Compared p q → (p ≡ q) ⊎ (better t q p ≡ true)
    level e (earlier b) = clash b (n.order e)
    level e (same s) = inl s
    level e (after b) = inr (wins_better t q p (sooner n.near b))

    on : (b : Bool) → nearer_path t q p ≡ b → (p ≡ q) ⊎ (better t q p ≡ true)
    on true e = inr (wins_better t q p (nearer_wins (path_nearer t q p e)))
    on false e = level (path_not_nearer t q p e) (before_total p q)

-- Two paths of which neither is better are the same.
pub neither_better_same : (t : Transducer) (p q : List ℕ) → better t p q ≡ false → better t q p ≡ false → p ≡ q
neither_better_same t p q a b = on (better_total t p q a)
  where
    on : (p ≡ q) ⊎ (better t q p ≡ true) → p ≡ q
    on (inl e) = e
    on (inr c) = clash c b

-- The best of a list.

pub best_of_in : (t : Transducer) (p : List ℕ) (l : List (List ℕ)) → Mem (best_of t p l) (p ∷ l)
unfolding best_of
best_of_in t p [] = first refl
best_of_in t p (q ∷ l) = on (better t q p) (λ r. best_of_in t r l)
  where
    other : (r : List ℕ) → (r ≡ p) ⊎ Mem r l → Mem r (p ∷ (q ∷ l))
    other r (inl e) = first e
    other r (inr m) = later (later m)

    on : (b : Bool) → ((r : List ℕ) → Mem (best_of t r l) (r ∷ l)) → Mem (best_of t (cond b q p) l) (p ∷ (q ∷ l))
    on true below = later (below q)
    on false below = other (best_of t p l) (first-or-later (below p))

pub best_of_least : (t : Transducer) (p : List ℕ) (l : List (List ℕ)) (q : List ℕ) → Mem q (p ∷ l) → better t q (best_of t p l) ≡ false
unfolding best_of
best_of_least t p [] q m = rw (only m) (not_better_same t p)
best_of_least t p (r ∷ l) q m = on (better t r p) refl (λ x y h. best_of_least t x l y h) (first-or-later m)
  where
    Less : Type 0
    Less = (x y : List ℕ) → Mem y (x ∷ l) → better t y (best_of t x l) ≡ false

    -- What is not better than p is not better than the best of p and others.
    behind : Less → (y : List ℕ) → better t y p ≡ false → (b : Bool) → better t y (best_of t p l) ≡ b → better t y (best_of t p l) ≡ false
    behind below y h false e = e
    behind below y h true e = next (better_total t p (best_of t p l) (below p p (first refl)))
      where
        next : (p ≡ best_of t p l) ⊎ (better t (best_of t p l) p ≡ true) → better t y (best_of t p l) ≡ false
        next (inl s) = rw (← s) h
        next (inr b) = clash (better_transitive t y (best_of t p l) p e b) h

    -- What is worse than r is not better than the best of r and others.
    worse : Less → (y : List ℕ) → better t r y ≡ true → (b : Bool) → better t y (best_of t r l) ≡ b → better t y (best_of t r l) ≡ false
    worse below y h false e = e
    worse below y h true e =
        clash (better_transitive t r y (best_of t r l) h e) (below r r (first refl))

    won : Less → better t r p ≡ true → (q ≡ p) ⊎ Mem q (r ∷ l) → better t q (best_of t r l) ≡ false
    won below h (inl e) = rw e (worse below p h (better t p (best_of t r l)) refl)
    won below h (inr m') = below r q m'

    lost : Less → better t r p ≡ false → (q ≡ r) ⊎ Mem q l → better t q (best_of t p l) ≡ false
    lost below h (inl e) = rw e (behind below r h (better t r (best_of t p l)) refl)
    lost below h (inr m') = below p q (later m')

    kept : Less → better t r p ≡ false → (q ≡ p) ⊎ Mem q (r ∷ l) → better t q (best_of t p l) ≡ false
    kept below h (inl e) = below p q (first e)
    kept below h (inr m') = lost below h (first-or-later m')

    on : (b : Bool) → better t r p ≡ b → Less → (q ≡ p) ⊎ Mem q (r ∷ l) → better t q (best_of t (cond b r p) l) ≡ false
    on true e below o = won below e o
    on false e below o = kept below e o

pub best_in : (t : Transducer) (l : List (List ℕ)) (p : List ℕ) → Mem p l → Mem (best t l) l
unfolding best
best_in t [] p m = absurd (none_in m)
best_in t (q ∷ l) p m = best_of_in t q l

pub best_least : (t : Transducer) (l : List (List ℕ)) (p : List ℕ) → Mem p l → better t p (best t l) ≡ false
unfolding best
best_least t [] p m = absurd (none_in m)
best_least t (q ∷ l) p m = best_of_least t q l p m
