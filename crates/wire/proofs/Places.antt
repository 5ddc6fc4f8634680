-- Laws of `places`, `every`, `sets`, `padded` and `filled`. Assumes nothing.
use mathlib.Core.Path.{◌≡◌, refl, sym, ap, ◌∙◌}
use mathlib.Core.Bool.{Bool, true, false, ◌&&◌, ◌||◌, not, and_assoc}
use mathlib.Core.List.{List, [], ◌∷◌, ◌++◌, map, append_assoc}
use Prim.Native.Nat.{ℕ, zero, suc, ◌+◌, ◌*◌, ◌-◌, ◌≤◌, ◌<◌}
use native.Mathlib.Nat.{not-suc-le-zero, le_of_suc-le-suc, add-zero, mul-suc, mul-zero}
use native.Mathlib.Omega.{arith}
use lib.ListN.{length, get_or, set, take, drop, replicate, length-append, length-replicate, length-drop}
use lib.Seq.{sets, sets-eq, take_at, take-append_seam, drop-drop}
use borrow.Rule.Slice.PartMut.{put_mid}
use Rattle.wire.specs.Bytes.{places, every, padded, emptied, filled, cleared}
use Rattle.wire.proofs.Bool.{and-true, true_and}

-- places

pub length_places : {A : Type 0} (k at s : ℕ) (f : ℕ → A) → length (places k at s f) ≡ k
unfolding places
length_places zero at s f = refl
length_places (suc k) at s f = ap suc (length_places k (at + s) s f)

pub get_or_places : {A : Type 0} (k at s : ℕ) (f : ℕ → A) (i : ℕ) (d : A) → i < k → get_or (places k at s f) i d ≡ f (at + s * i)
unfolding places
get_or_places zero at s f i d h = absurd (not-suc-le-zero h)
get_or_places (suc k) at s f zero d h = ap f (sym (ap (λ (n : ℕ). at + n) (mul-zero s) ∙ add-zero at))
get_or_places (suc k) at s f (suc i) d h =
    let e : at + s + s * i ≡ at + s * suc i = omega (arith, mul-suc s i) in
    get_or_places k (at + s) s f i d (le_of_suc-le-suc h) ∙ ap f e

pub map_places : {A B : Type 0} (g : A → B) (k at s : ℕ) (f : ℕ → A) → map g (places k at s f) ≡ places k at s (λ p. g (f p))
unfolding places
map_places g zero at s f = refl
map_places g (suc k) at s f = ap (λ (l : List _). g (f at) ∷ l) (map_places g k (at + s) s f)

-- One more place at the end.
pub places_snoc : {A : Type 0} (k at s : ℕ) (f : ℕ → A) → places (suc k) at s f ≡ places k at s f ++ (f (at + s * k) ∷ [])
unfolding places
places_snoc zero at s f = ap (λ (n : ℕ). f n ∷ []) (sym (ap (λ (n : ℕ). at + n) (mul-zero s) ∙ add-zero at))
places_snoc (suc k) at s f =
    let e : at + s + s * k ≡ at + s * suc k = omega (arith, mul-suc s k) in
    ap (λ (l : List _). f at ∷ l) (places_snoc k (at + s) s f ∙ ap (λ (n : ℕ). places k (at + s) s f ++ (f n ∷ [])) e)

pub take_places : {A : Type 0} (i k at s : ℕ) (f : ℕ → A) → i ≤ k → take i (places k at s f) ≡ places i at s f
unfolding places
take_places zero k at s f h = refl
take_places (suc i) zero at s f h = absurd (not-suc-le-zero h)
take_places (suc i) (suc k) at s f h = ap (λ (l : List _). f at ∷ l) (take_places i k (at + s) s f (le_of_suc-le-suc h))

-- Two functions that agree at each place make the same list.
pub places_same : {A : Type 0} (k at s : ℕ) (f g : ℕ → A) → ((i : ℕ) → i < k → f (at + s * i) ≡ g (at + s * i)) → places k at s f ≡ places k at s g
unfolding places
places_same zero at s f g h = refl
places_same (suc k) at s f g h =
    let e : at + s * 0 ≡ at = omega (arith, mul-zero s) in
    let first : f at ≡ g at = rw e at (h 0 (omega arith)) in
    let more : (i : ℕ) → i < k → f (at + s + s * i) ≡ g (at + s + s * i) =
    λ i l. let e2 : at + s * suc i ≡ at + s + s * i = omega (arith, mul-suc s i) in rw e2 at (h (suc i) (omega arith)) in
    rw (first, places_same k (at + s) s f g more)

-- every

pub every_append : {A : Type 0} (t : A → Bool) (xs ys : List A) → every t (xs ++ ys) ≡ every t xs && every t ys
unfolding every
every_append t [] ys = refl
every_append t (x ∷ xs) ys = rw (every_append t xs ys, and_assoc)

not_and : (a b : Bool) → not a || not b ≡ not (a && (b && true))
not_and true true = refl
not_and true false = refl
not_and false b = refl

-- A test fails somewhere in a list with one more element where it fails in the list or of that element.
pub not_every_snoc : {A : Type 0} (t : A → Bool) (xs : List A) (x : A) → not (every t xs) || not (t x) ≡ not (every t (xs ++ (x ∷ [])))
unfolding every
not_every_snoc t xs x = not_and (every t xs) (t x) ∙ ap not (sym (every_append t xs (x ∷ [])))

-- A test that holds of each element holds at each place.
pub every_get_or : {A : Type 0} (t : A → Bool) (xs : List A) (i : ℕ) (d : A) → every t xs ≡ true → i < length xs → t (get_or xs i d) ≡ true
unfolding every
every_get_or t [] i d h l = absurd (not-suc-le-zero l)
every_get_or t (x ∷ xs) zero d h l = (and-true (t x) (every t xs) h).0
every_get_or t (x ∷ xs) (suc i) d h l = every_get_or t xs i d (and-true (t x) (every t xs) h).1 (le_of_suc-le-suc l)

-- And the other way round.
pub get_or_every : {A : Type 0} (t : A → Bool) (xs : List A) (d : A) → ((i : ℕ) → i < length xs → t (get_or xs i d) ≡ true) → every t xs ≡ true
unfolding every
get_or_every t [] d h = refl
get_or_every t (x ∷ xs) d h = true_and (t x) (every t xs) (h 0 (omega arith)) (get_or_every t xs d (λ i l. h (suc i) (omega arith)))

-- sets

pub sets_append : (l : List ℕ) (i : ℕ) (xs ys : List ℕ) → sets l i (xs ++ ys) ≡ sets (sets l i xs) (i + length xs) ys
sets_append l i [] ys = ap (λ (k : ℕ). sets l k ys) (sym (add-zero i))
sets_append l i (x ∷ xs) ys =
    let e : suc i + length xs ≡ i + suc (length xs) = omega arith in
    sets_append (set l i x) (suc i) xs ys ∙ ap (λ (k : ℕ). sets (sets (set l i x) (suc i) xs) k ys) e

-- If a part of a list is replaced by a list of its length, that list is set there.
pub put_mid_sets : (at k : ℕ) (out part xs : List ℕ) → at + length xs ≤ length out → k ≡ length xs → part ≡ xs → put_mid at k out part ≡ sets out at xs
put_mid_sets at k out part xs h e same = rw (sets-eq xs out at h, append_assoc, drop-drop, e, same)

-- padded

module _ {A : Type 0} (none : A) where
  pub length_padded : (room : ℕ) (xs : List A) → length xs ≤ room → length (padded none room xs) ≡ room
  length_padded room xs h = simp (length-append, length-replicate) (omega arith)

  pub take_padded : (room : ℕ) (xs : List A) → take (length xs) (padded none room xs) ≡ xs
  take_padded room xs = take-append_seam xs (replicate (room - length xs) none)

  -- What is put behind a list reads as what lies behind its end does.
  get_or_none : (k i : ℕ) → get_or (replicate k none) i none ≡ none
  get_or_none zero i = refl
  get_or_none (suc k) zero = refl
  get_or_none (suc k) (suc i) = get_or_none k i

  get_or_behind : (xs : List A) (k i : ℕ) → get_or (xs ++ replicate k none) i none ≡ get_or xs i none
  get_or_behind [] k i = get_or_none k i
  get_or_behind (x ∷ xs) k zero = refl
  get_or_behind (x ∷ xs) k (suc i) = get_or_behind xs k i

  pub get_or_padded : (room : ℕ) (xs : List A) (i : ℕ) → get_or (padded none room xs) i none ≡ get_or xs i none
  get_or_padded room xs i = get_or_behind xs (room - length xs) i

  -- What is written at the front, then emptied behind.
  pub emptied_append : (k : ℕ) (xs ys : List A) → length xs ≡ k → emptied none k (xs ++ ys) ≡ padded none (length (xs ++ ys)) xs
  emptied_append k xs ys e = rw (take_at xs ys k e, e)

  pub emptied_front : (k : ℕ) (xs out : List A) → length xs ≡ k → k ≤ length out → emptied none k (xs ++ drop k out) ≡ padded none (length out) xs
  emptied_front k xs out e h =
      let long : length (xs ++ drop k out) ≡ length out = length-append xs (drop k out) ∙ (simp length-drop (omega arith)) in
      emptied_append k xs (drop k out) e ∙ ap (λ (n : ℕ). padded none n xs) long

-- filled

pub length_filled : (room : ℕ) (xs : List ℕ) → length xs ≤ room → length (filled room xs) ≡ room
unfolding filled
length_filled room xs h = length_padded 0 room xs h

pub take_filled : (room : ℕ) (xs : List ℕ) → take (length xs) (filled room xs) ≡ xs
unfolding filled
take_filled room xs = take_padded 0 room xs

-- What was written stands at the front of a buffer, as long as was told.
pub take_told : (len room : ℕ) (xs out : List ℕ) → len ≡ length xs → out ≡ filled room xs → take len out ≡ xs
take_told len room xs out l e = rw (l, e) (take_filled room xs)

pub get_or_filled : (room : ℕ) (xs : List ℕ) (i : ℕ) → get_or (filled room xs) i 0 ≡ get_or xs i 0
unfolding filled
get_or_filled room xs i = get_or_padded 0 room xs i

pub cleared_front : (k : ℕ) (xs out : List ℕ) → length xs ≡ k → k ≤ length out → cleared k (xs ++ drop k out) ≡ filled (length out) xs
unfolding filled cleared
cleared_front k xs out e h = emptied_front 0 k xs out e h
