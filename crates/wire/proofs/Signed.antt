-- Signed numbers as bits and as bytes: what is written is read back and the other way round, exact at 0, at -1 and at both ends; bits below
-- 2^31 are the number itself.
--     minus_is, upper_is, negative, flipped, positive      what `signed_of` and `bits_of` work out
-- Assumes nothing.
use mathlib.Core.Path.{◌≡◌, refl, sym, ap, ◌∙◌, subst}
use mathlib.Core.Bool.{true, false}
use mathlib.Core.List.{List, [], ◌∷◌, ◌++◌}
use Prim.Native.Nat.{ℕ, zero, suc, ◌+◌, ◌-◌, ◌^◌, ◌≤◌, ◌<◌}
use native.Mathlib.Omega.{arith}
use borrow.Author.Tests.{le-ltb, le-leb}
use lib.Dec.{T}
use lib.IntN.{ℤ, pos, negsuc, ◌-ℤ◌, nat_abs}
use lib.ListN.{length, drop}
use lib.Signed.{le_z, non_neg}
use mir.Syntax.{w32}
use mir.Val.{SFits, to_z, of_z}
use mir.Facts.{to_z-of_z, of_z-to_z, to_z_pos, Fits-of_z, Fits-of_lt}
use Rattle.wire.specs.Bytes.{Bytes, two, four, low, signed_four, signed_low}
use Rattle.wire.proofs.Ints.{false_true}
use Rattle.wire.proofs.Low.{bytes_low, four_below, four_low_front, low_four_drop, four_drop}

-- Bits

-- The upper half of the bits is -1 less what they fall short of 2^32 - 1.
pub minus_is : (m : ℕ) → m < 2 ^ 31 → negsuc 0 -ℤ to_z w32 m ≡ negsuc m
minus_is m small = rw (to_z_pos w32 small) (on m)
  where
    on : (k : ℕ) → negsuc 0 -ℤ pos k ≡ negsuc k
    on zero = refl
    on (suc k) = ap negsuc (omega arith)

pub upper_is : (n : ℕ) → n < 2 ^ 32 → 2147483648 ≤ n → to_z w32 n ≡ negsuc (4294967295 - n)
upper_is n fits large = rw (le-ltb n (2 ^ 31) large) (ap negsuc (omega arith))

-- A number below 0, counted from -1 down.
pub record Negative (z : ℤ) : Type 0 where
  pub size : ℕ
  pub is : z ≡ negsuc size
  pub small : size < 2 ^ 31

pub negative : (z : ℤ) → SFits w32 z → le_z (pos 0) (to_z w32 (of_z w32 z)) ≡ false → Negative z
negative z f t = on z f (subst (λ (y : ℤ). le_z (pos 0) y ≡ false) (to_z-of_z f) t)
  where
    on : (y : ℤ) → SFits w32 y → le_z (pos 0) y ≡ false → Negative y
    on (pos n) g e = absurd (false_true (sym e ∙ le-leb 0 n (omega arith)))
    on (negsuc n) g e = record { size = n; is = refl; small = g.sfits }

-- -1 less it is its size.
pub flipped : (z : ℤ) → SFits w32 z → (n : Negative z) → negsuc 0 -ℤ to_z w32 (of_z w32 z) ≡ pos n.size
flipped z f n = rw (to_z-of_z f, n.is) (rw (le-ltb (suc n.size) 1 (omega arith)) (ap pos (omega arith)))

-- A number from 0 on is its bits.
pub positive : (z : ℤ) → SFits w32 z → le_z (pos 0) (to_z w32 (of_z w32 z)) ≡ true → T (non_neg z) × (nat_abs z ≡ of_z w32 z)
positive z f t = on z (subst (λ (y : ℤ). le_z (pos 0) y ≡ true) (to_z-of_z f) t)
  where
    on : (y : ℤ) → le_z (pos 0) y ≡ true → T (non_neg y) × (nat_abs y ≡ of_z w32 y)
    on (pos n) e = (tt, refl)
    on (negsuc n) e = absurd (false_true e)

-- Bytes

pub bytes_signed_low : (z : ℤ) → Bytes (signed_low z)
unfolding signed_low
bytes_signed_low z = bytes_low 4 (of_z w32 z)

pub signed_four_drop : (bs : List ℕ) (at i : ℕ) → signed_four (drop at bs) i ≡ signed_four bs (at + i)
unfolding signed_four
signed_four_drop bs at i = ap (to_z w32) (four_drop bs at i)

-- Written, then read.
pub signed_low_front : (z : ℤ) (ys : List ℕ) → SFits w32 z → signed_four (signed_low z ++ ys) 0 ≡ z
unfolding signed_four signed_low
signed_low_front z ys f = ap (to_z w32) (four_low_front (of_z w32 z) ys (Fits-of_z f).fits) ∙ to_z-of_z f

-- Read, then written.
pub signed_low_four : (bs : List ℕ) (at : ℕ) → Bytes bs → signed_low (signed_four bs at) ≡ low 4 (four bs at)
unfolding signed_four signed_low
signed_low_four bs at h = ap (low 4) (of_z-to_z {w = w32} (Fits-of_lt (four_below bs at h)))

pub signed_low_four_drop : (bs : List ℕ) (at : ℕ) → Bytes bs → at + 4 ≤ length bs → signed_low (signed_four bs at) ++ drop (at + 4) bs ≡ drop at bs
signed_low_four_drop bs at h l = rw (signed_low_four bs at h) (low_four_drop bs at h l)

-- Below 2^31 the sign plays no part.
pub signed_four_small : (bs : List ℕ) (at : ℕ) → four bs at < 2147483648 → signed_four bs at ≡ pos (four bs at)
unfolding signed_four
signed_four_small bs at h = to_z_pos w32 h

-- 0, -1 and both ends.
four_zero : signed_four (0 ∷ 0 ∷ 0 ∷ 0 ∷ []) 0 ≡ pos 0
unfolding signed_four four two
four_zero = refl

four_minus_one : signed_four (255 ∷ 255 ∷ 255 ∷ 255 ∷ []) 0 ≡ negsuc 0
unfolding signed_four four two
four_minus_one = refl

four_most : signed_four (255 ∷ 255 ∷ 255 ∷ 127 ∷ []) 0 ≡ pos 2147483647
unfolding signed_four four two
four_most = refl

four_least : signed_four (0 ∷ 0 ∷ 0 ∷ 128 ∷ []) 0 ≡ negsuc 2147483647
unfolding signed_four four two
four_least = refl
