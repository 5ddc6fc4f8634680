-- Numbers and their bytes: `two` and `four` read what `low` makes. Assumes nothing.
use mathlib.Core.Path.{◌≡◌, sym, ap, ◌∙◌}
use mathlib.Core.List.{List, [], ◌∷◌, ◌++◌, append_assoc}
use Prim.Native.Nat.{ℕ, zero, suc, ◌+◌, ◌*◌, ◌/◌, ◌%◌, ◌≤◌, ◌<◌}
use native.Mathlib.Nat.{add-mul-div_left, div-eq_of_lt, add-mul-mod_self_left, mod-eq_of_lt, add-zero, div-div-eq-div-mul}
use native.Mathlib.Numerals.{add-one, add-two}
use native.Mathlib.Omega.{arith}
use lib.Dec.{lit<}
use lib.ListN.{length, get_or, drop}
use lib.Bits.{bit_and, and_mask}
use lib.Seq.{get_or-drop, drop-append_seam, drop-cons}
use Rattle.std.proofs.Common.{Fits, w8}
use Rattle.wire.specs.Bytes.{Bytes, two, four, low}

-- What the check tells of a slice of bytes.
pub are_bytes : (bs : List ℕ) → ((i : ℕ) → Fits w8 (get_or bs i 0)) → Bytes bs
are_bytes bs fits i = (fits i).fits

pub two_below : (bs : List ℕ) (at : ℕ) → Bytes bs → two bs at < 65536
unfolding two
two_below bs at h = omega (arith, h at, h (at + 1))

pub four_below : (bs : List ℕ) (at : ℕ) → Bytes bs → four bs at < 4294967296
unfolding four
four_below bs at h = omega (arith, two_below bs at h, two_below bs (at + 2) h)

-- The halves of a number of four bytes.
pub four_halves : (bs : List ℕ) (at a b : ℕ) → Bytes bs → a < 65536 → four bs at ≡ a + 65536 * b → (two bs at ≡ a) × (two bs (at + 2) ≡ b)
unfolding four
four_halves bs at a b h l e = omega (arith, two_below bs at h, two_below bs (at + 2) h)

-- low, read back

pub bytes_low : (n v : ℕ) → Bytes (low n v)
unfolding low
bytes_low zero v i = omega arith
bytes_low (suc n) v zero = omega arith
bytes_low (suc n) v (suc i) = bytes_low n (v / 256) i

pub bytes_append : (xs ys : List ℕ) → Bytes xs → Bytes ys → Bytes (xs ++ ys)
bytes_append [] ys p q i = q i
bytes_append (x ∷ xs) ys p q zero = p 0
bytes_append (x ∷ xs) ys p q (suc i) = bytes_append xs ys (λ k. p (suc k)) q i

-- Reading past a place is reading in what stands from that place on.
pub two_drop : (bs : List ℕ) (at i : ℕ) → two (drop at bs) i ≡ two bs (at + i)
unfolding two
two_drop bs at i =
    let next : at + (i + 1) ≡ at + i + 1 = omega arith in
    rw (get_or-drop at bs i 0, get_or-drop at bs (i + 1) 0, next)

pub four_drop : (bs : List ℕ) (at i : ℕ) → four (drop at bs) i ≡ four bs (at + i)
unfolding four
four_drop bs at i =
    let next : at + (i + 2) ≡ at + i + 2 = omega arith in
    rw (two_drop bs at i, two_drop bs at (i + 2), next)

pub two_low_front : (v : ℕ) (ys : List ℕ) → v < 65536 → two (low 2 v ++ ys) 0 ≡ v
unfolding two low
two_low_front v ys h = omega arith

pub four_low_front : (v : ℕ) (ys : List ℕ) → v < 4294967296 → four (low 4 v ++ ys) 0 ≡ v
unfolding four two low
four_low_front v ys h = omega arith

pub two_low : (xs ys : List ℕ) (v : ℕ) → v < 65536 → two (xs ++ low 2 v ++ ys) (length xs) ≡ v
two_low xs ys v h =
    let rest : drop (length xs) (xs ++ low 2 v ++ ys) ≡ low 2 v ++ ys = rw append_assoc (drop-append_seam xs (low 2 v ++ ys)) in
    let here : two (drop (length xs) (xs ++ low 2 v ++ ys)) 0 ≡ two (xs ++ low 2 v ++ ys) (length xs + 0) = two_drop (xs ++ low 2 v ++ ys) (length xs) 0 in
    sym (rw add-zero at here) ∙ ap (λ (l : List ℕ). two l 0) rest ∙ two_low_front v ys h

pub four_low : (xs ys : List ℕ) (v : ℕ) → v < 4294967296 → four (xs ++ low 4 v ++ ys) (length xs) ≡ v
four_low xs ys v h =
    let rest : drop (length xs) (xs ++ low 4 v ++ ys) ≡ low 4 v ++ ys = rw append_assoc (drop-append_seam xs (low 4 v ++ ys)) in
    let here : four (drop (length xs) (xs ++ low 4 v ++ ys)) 0 ≡ four (xs ++ low 4 v ++ ys) (length xs + 0) = four_drop (xs ++ low 4 v ++ ys) (length xs) 0 in
    sym (rw add-zero at here) ∙ ap (λ (l : List ℕ). four l 0) rest ∙ four_low_front v ys h

-- The lowest bytes of a number are what shifts by bytes and masks of 255 make of it.
pub low_two_masked : (v : ℕ) → v < 65536 → low 2 v ≡ bit_and v 255 ∷ v / 256 ∷ []
unfolding low
low_two_masked v h =
    let first : bit_and v 255 ≡ v % 256 = and_mask v 8 in
    let high : v / 256 % 256 ≡ v / 256 = mod-eq_of_lt (omega (arith, h)) in
    rw (first, high)

pub low_four_masked : (v : ℕ) → v < 4294967296 → low 4 v ≡ bit_and v 255 ∷ bit_and (v / 256) 255 ∷ bit_and (v / 65536) 255 ∷ v / 16777216 ∷ []
unfolding low
low_four_masked v h =
    let third : v / 256 / 256 ≡ v / 65536 = div-div-eq-div-mul v 256 256 in
    let fourth : v / 65536 / 256 ≡ v / 16777216 = div-div-eq-div-mul v 65536 256 in
    let high : v / 16777216 % 256 ≡ v / 16777216 = mod-eq_of_lt (omega (arith, h)) in
    let first : bit_and v 255 ≡ v % 256 = and_mask v 8 in
    let second : bit_and (v / 256) 255 ≡ v / 256 % 256 = and_mask (v / 256) 8 in
    let last : bit_and (v / 65536) 255 ≡ v / 65536 % 256 = and_mask (v / 65536) 8 in
    rw (third, fourth, high, first, second, last)

-- two and four, written back

two_bytes : (a b : ℕ) → a < 256 → b < 256 → low 2 (a + 256 * b) ≡ a ∷ b ∷ []
unfolding low
two_bytes a b p q =
    let first : (a + 256 * b) % 256 ≡ a = add-mul-mod_self_left a 256 b ∙ mod-eq_of_lt p in
    let second : (a + 256 * b) / 256 ≡ b = omega (arith, add-mul-div_left a b {y = 256} (lit< tt), div-eq_of_lt p) in
    rw (first, second, mod-eq_of_lt q)

pub low_two : (bs : List ℕ) (at : ℕ) → Bytes bs → low 2 (two bs at) ≡ get_or bs at 0 ∷ get_or bs (at + 1) 0 ∷ []
unfolding two
low_two bs at h = two_bytes (get_or bs at 0) (get_or bs (at + 1) 0) (h at) (h (at + 1))

low_halves : (a b : ℕ) → a < 65536 → low 4 (a + 65536 * b) ≡ low 2 a ++ low 2 b
unfolding low
low_halves a b p =
    let e : a + 65536 * b ≡ a + 256 * (256 * b) = omega arith in
    let first : (a + 65536 * b) % 256 ≡ a % 256 = rw e (add-mul-mod_self_left a 256 (256 * b)) in
    let rest : (a + 65536 * b) / 256 ≡ a / 256 + 256 * b = rw e (add-mul-div_left a (256 * b) (lit< tt)) in
    let second : (a / 256 + 256 * b) % 256 ≡ a / 256 % 256 = add-mul-mod_self_left (a / 256) 256 b in
    let more : (a / 256 + 256 * b) / 256 ≡ b = omega (arith, add-mul-div_left (a / 256) b {y = 256} (lit< tt)) in
    rw (first, rest, second, more)

pub low_four : (bs : List ℕ) (at : ℕ) → Bytes bs → low 4 (four bs at) ≡ get_or bs at 0 ∷ get_or bs (at + 1) 0 ∷ get_or bs (at + 2) 0 ∷ get_or bs (at + 3) 0 ∷ []
unfolding four
low_four bs at h =
    let last : at + 2 + 1 ≡ at + 3 = omega arith in
    rw (low_halves (two bs at) (two bs (at + 2)) (two_below bs at h), low_two bs at h, low_two bs (at + 2) h, last)

-- The number at a place, written in front of what stands behind it, is what stands from that place on.
pub low_two_drop : (bs : List ℕ) (at : ℕ) → Bytes bs → at + 2 ≤ length bs → low 2 (two bs at) ++ drop (at + 2) bs ≡ drop at bs
low_two_drop bs at h l =
    let one : drop at bs ≡ get_or bs at 0 ∷ drop (suc at) bs = drop-cons bs at 0 (omega arith) in
    let other : drop (suc at) bs ≡ get_or bs (suc at) 0 ∷ drop (suc (suc at)) bs = drop-cons bs (suc at) 0 (omega arith) in
    rw (low_two bs at h, add-one, add-two, one, other)

pub low_four_drop : (bs : List ℕ) (at : ℕ) → Bytes bs → at + 4 ≤ length bs → low 4 (four bs at) ++ drop (at + 4) bs ≡ drop at bs
unfolding four
low_four_drop bs at h l =
    let e : at + 4 ≡ at + 2 + 2 = omega arith in
    rw (
      low_halves (two bs at) (two bs (at + 2)) (two_below bs at h),
      append_assoc,
      e,
      low_two_drop bs (at + 2) h (omega arith),
      low_two_drop bs at h (omega arith),
    )
