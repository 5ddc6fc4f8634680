-- How many numbers below a bound have a property, and growing properties that come to rest (the pigeonhole). Assumes nothing.
use mathlib.Core.Path.{◌≡◌, refl, ap, ap₂, ◌∙◌}
use mathlib.Core.Bool.{Bool, true, false, cond}
use mathlib.Core.Logic.{◌⊎◌, inl, inr}
use Prim.Native.Nat.{ℕ, zero, suc, ◌+◌, ◌≤◌, ◌<◌}
use native.Mathlib.Nat.{not-suc-le-zero, zero-add, add-zero, suc-add}
use native.Mathlib.Omega.{arith}
use lib.Dec.{ltb, leb, eqb}
use borrow.Author.Tests.{eqb-true, eqb-false, ltb-true, ltb-false, leb-true, leb-false}
use Rattle.reach.specs.Counted.{count}

pub last_or_below : (s n : ℕ) → s < suc n → (s ≡ n) ⊎ (s < n)
last_or_below s n h = on (eqb s n) refl
  where
    on : (b : Bool) → eqb s n ≡ b → (s ≡ n) ⊎ (s < n)
    on true e = inl (eqb-true s n e)
    on false e = let ne : s ≡ n → ⊥ = eqb-false s n e in inr (omega arith)

-- What one number adds.
one_at_most : (b : Bool) → cond b 1 0 ≤ 1
one_at_most true = omega arith
one_at_most false = omega arith

one_true : (b : Bool) → 1 ≤ cond b 1 0 → b ≡ true
one_true true h = refl
one_true false h = absurd (omega arith)

true_one : (b : Bool) → b ≡ true → ◌≡◌ {A = ℕ} (cond b 1 0) 1
true_one b e = rw e

one_wider : (a b : Bool) → (a ≡ true → b ≡ true) → cond a 1 0 ≤ cond b 1 0
one_wider true b h = rw (h refl) (omega arith)
one_wider false b h = omega arith

one_same : (a b : Bool) → cond b 1 0 ≤ cond a 1 0 → b ≡ true → a ≡ true
one_same a b h e = let one : ◌≡◌ {A = ℕ} (cond b 1 0) 1 = true_one b e in one_true a (omega arith)

pub count_most : (n : ℕ) (f : ℕ → Bool) → count n f ≤ n
unfolding count
count_most zero f = omega arith
count_most (suc n) f = omega (arith, count_most n f, one_at_most (f n))

pub count_full : (n : ℕ) (f : ℕ → Bool) → n ≤ count n f → (s : ℕ) → s < n → f s ≡ true
unfolding count
count_full zero f full s h = absurd (not-suc-le-zero h)
count_full (suc n) f full s h =
    let here : 1 ≤ cond (f n) 1 0 = omega (arith, count_most n f) in
    let below : n ≤ count n f = omega (arith, one_at_most (f n)) in
    on (count_full n f below s) (one_true (f n) here) (last_or_below s n h)
  where
    on : (s < n → f s ≡ true) → f n ≡ true → (s ≡ n) ⊎ (s < n) → f s ≡ true
    on more last (inl e) = rw e last
    on more last (inr l) = more l

-- Each number below n that has the first property has the second.
abbrev pub Wider : (n : ℕ) → (f g : ℕ → Bool) → Type 0
Wider n f g = (s : ℕ) → s < n → f s ≡ true → g s ≡ true

pub count_wider : (n : ℕ) (f g : ℕ → Bool) → Wider n f g → count n f ≤ count n g
unfolding count
count_wider zero f g w = omega arith
count_wider (suc n) f g w = omega (arith, count_wider n f g (λ s h. w s (omega arith)), one_wider (f n) (g n) (w n (omega arith)))

-- A wider property of no more numbers is the same.
pub count_same : (n : ℕ) (f g : ℕ → Bool) → Wider n f g → count n g ≤ count n f → Wider n g f
unfolding count
count_same zero f g w less s h e = absurd (not-suc-le-zero h)
count_same (suc n) f g w less s h e =
    let below : count n f ≤ count n g = count_wider n f g (λ s h. w s (omega arith)) in
    let here : cond (f n) 1 0 ≤ cond (g n) 1 0 = one_wider (f n) (g n) (w n (omega arith)) in
    let last : cond (g n) 1 0 ≤ cond (f n) 1 0 = omega arith in
    let rest : count n g ≤ count n f = omega arith in
    on (λ l. count_same n f g (λ s h. w s (omega arith)) rest s l e) last (last_or_below s n h)
  where
    on : (s < n → f s ≡ true) → cond (g n) 1 0 ≤ cond (f n) 1 0 → (s ≡ n) ⊎ (s < n) → f s ≡ true
    on more last (inl q) = rw q (one_same (f n) (g n) last (rw q at e))
    on more last (inr l) = more l

pub count_rises : (f : ℕ → Bool) (s n : ℕ) → s ≤ n → count s f ≤ count n f
unfolding count
count_rises f s zero h = let e : s ≡ 0 = omega arith in rw e (omega arith)
count_rises f s (suc n) h = on (λ l. count_rises f s n l) (last_or_below s (suc n) (omega arith))
  where
    on : (s ≤ n → count s f ≤ count n f) → (s ≡ suc n) ⊎ (s < suc n) → count s f ≤ count n f + cond (f n) 1 0
    on more (inl e) = rw e (omega arith)
    on more (inr l) = omega (arith, more (omega arith))

pub count_next : (f : ℕ → Bool) (s : ℕ) → f s ≡ true → count (suc s) f ≡ count s f + 1
unfolding count
count_next f s e = rw e

pub count_stays : (f : ℕ → Bool) (s : ℕ) → f s ≡ false → count (suc s) f ≡ count s f
unfolding count
count_stays f s e = rw (e, add-zero)

pub count_before : (f : ℕ → Bool) (s n : ℕ) → s < n → f s ≡ true → count s f < count n f
count_before f s n h e = omega (arith, count_next f s e, count_rises f (suc s) n h)

-- No two numbers that have the property have the same count before them.
pub count_injective : (f : ℕ → Bool) (s s' : ℕ) → f s ≡ true → f s' ≡ true → count s f ≡ count s' f → s ≡ s'
count_injective f s s' e e' same = on (ltb s s') refl (ltb s' s) refl
  where
    on : (b : Bool) → ltb s s' ≡ b → (b' : Bool) → ltb s' s ≡ b' → s ≡ s'
    on true l b' l' = absurd (omega (arith, count_before f s s' (ltb-true s s' l) e))
    on false l true l' = absurd (omega (arith, count_before f s' s (ltb-true s' s l') e'))
    on false l false l' = omega (arith, ltb-false s s' l, ltb-false s' s l')

pub count_none : (n : ℕ) (f : ℕ → Bool) → ((i : ℕ) → i < n → f i ≡ false) → count n f ≡ 0
unfolding count
count_none zero f e = refl
count_none (suc n) f e = rw (e n (omega arith), add-zero) (count_none n f (λ i h. e i (omega arith)))

pub count_same_below : (n : ℕ) (f g : ℕ → Bool) → ((j : ℕ) → j < n → g j ≡ f j) → count n g ≡ count n f
unfolding count
count_same_below zero f g e = refl
count_same_below (suc n) f g e = ap₂ ◌+◌ (count_same_below n f g (λ j h. e j (omega arith))) (ap (λ (b : Bool). cond b 1 0) (e n (omega arith)))

-- A property of one number more.
pub count_one_more : (n i : ℕ) (f g : ℕ → Bool) → i < n → f i ≡ false → g i ≡ true → ((j : ℕ) → (j ≡ i → ⊥) → g j ≡ f j) → count n g ≡ count n f + 1
count_one_more zero i f g h p q e = absurd (not-suc-le-zero h)
count_one_more (suc n) i f g h p q e = on (last_or_below i n h) (λ l. count_one_more n i f g l p q e)
  where
    on : (i ≡ n) ⊎ (i < n) → (i < n → count n g ≡ count n f + 1) → count (suc n) g ≡ count (suc n) f + 1
    on (inl d) more =
        let has : g n ≡ true = rw d at q in
        let lacks : f n ≡ false = rw d at p in
        omega (arith, count_next g n has, count_stays f n lacks, count_same_below n f g (λ j l. e j (λ k. omega arith)))
    on (inr l) more =
        let same : g n ≡ f n = e n (λ k. omega arith) in
        count_alike (f n) (g n) same refl refl (more l)
      where
        count_alike : (a b : Bool) → b ≡ a → f n ≡ a → g n ≡ b → count n g ≡ count n f + 1 → count (suc n) g ≡ count (suc n) f + 1
        count_alike true b s x y m = omega (arith, m, count_next f n x, count_next g n (y ∙ s))
        count_alike false b s x y m = omega (arith, m, count_stays f n x, count_stays g n (y ∙ s))

-- Each number below the count stands before some number that has the property.
pub record CountedAt (f : ℕ → Bool) (n k : ℕ) : Type 0 where
  pub place : ℕ
  pub below : place < n
  pub has : f place ≡ true
  pub before : count place f ≡ k

pub count_onto : (f : ℕ → Bool) (n k : ℕ) → k < count n f → CountedAt f n k
unfolding count
count_onto f zero k h = absurd (not-suc-le-zero h)
count_onto f (suc n) k h = on (f n) refl (leb (count n f) k) refl (λ l. count_onto f n k l)
  where
    on : (b : Bool) → f n ≡ b → (c : Bool) → leb (count n f) k ≡ c → (k < count n f → CountedAt f n k) → CountedAt f (suc n) k
    on b e false l more =
        let r : CountedAt f n k = more (leb-false (count n f) k l) in
        record { place = r.place; below = omega arith; has = r.has; before = r.before }
    on true e true l more =
        let low : count n f ≤ k = leb-true (count n f) k l in
        let high : k < count n f + 1 = rw e at h in
        record { place = n; below = omega arith; has = e; before = omega arith }
    on false e true l more =
        let low : count n f ≤ k = leb-true (count n f) k l in
        let high : k < count n f + 0 = rw e at h in
        absurd (omega arith)

-- A growing chain of properties of the numbers below n, which rests for good once it has rested for one step.

abbrev pub Rests : (n : ℕ) → (F : ℕ → ℕ → Bool) → (k : ℕ) → Type 0
Rests n F k = Wider n (F (suc k)) (F k)

pub record Chain (n : ℕ) (F : ℕ → ℕ → Bool) : Type 0 where
  pub grows : (k : ℕ) → Wider n (F k) (F (suc k))
  pub stays : (k : ℕ) → Rests n F k → Rests n F (suc k)

grown_or_rests : (n : ℕ) (F : ℕ → ℕ → Bool) → Chain n F → (k : ℕ) → (k ≤ count n (F k)) ⊎ Rests n F k
grown_or_rests n F c zero = inl (omega arith)
grown_or_rests n F c (suc k) = on (grown_or_rests n F c k)
  where
    next : k ≤ count n (F k) → (b : Bool) → leb (count n (F (suc k))) (count n (F k)) ≡ b → (suc k ≤ count n (F (suc k))) ⊎ Rests n F (suc k)
    next grown true e =
        inr (c.stays k (count_same n (F k) (F (suc k)) (c.grows k) (leb-true (count n (F (suc k))) (count n (F k)) e)))
    next grown false e = inl (omega (arith, leb-false (count n (F (suc k))) (count n (F k)) e))

    on : (k ≤ count n (F k)) ⊎ Rests n F k → (suc k ≤ count n (F (suc k))) ⊎ Rests n F (suc k)
    on (inl grown) = next grown (leb (count n (F (suc k))) (count n (F k))) refl
    on (inr rests) = inr (c.stays k rests)

rests_later : (n : ℕ) (F : ℕ → ℕ → Bool) → Chain n F → (k : ℕ) → Rests n F k → (m : ℕ) → Rests n F (m + k)
rests_later n F c k r zero = rw zero-add r
rests_later n F c k r (suc m) = rw suc-add (c.stays (m + k) (rests_later n F c k r m))

rests_back : (n : ℕ) (F : ℕ → ℕ → Bool) → Chain n F → (k : ℕ) → Rests n F k → (m : ℕ) → Wider n (F (m + k)) (F k)
rests_back n F c k r zero s h e = rw zero-add at e
rests_back n F c k r (suc m) s h e =
    let e' : F (suc (m + k)) s ≡ true = rw suc-add at e in
    rests_back n F c k r m s h (rests_later n F c k r m s h e')

-- After n steps nothing is new.
pub chain_rests : (n : ℕ) (F : ℕ → ℕ → Bool) → Chain n F → (m : ℕ) → Wider n (F (m + n)) (F n)
chain_rests n F c m s h e = on (grown_or_rests n F c n)
  where
    on : (n ≤ count n (F n)) ⊎ Rests n F n → F n s ≡ true
    on (inl full) = count_full n (F n) full s h
    on (inr rests) = rests_back n F c n rests m s h e
