-- Little-endian numbers in a list of bytes, lists made place by place, and what lies behind the written part of a buffer.
-- Assumes nothing: these are definitions.
use Rattle.std.specs.Prelude.{Bool, true, ◌&&◌, List, [], ◌∷◌, ◌++◌, ℕ, zero, suc, ◌+◌, ◌*◌, ◌-◌, ◌/◌, ◌%◌, ◌<◌, length, get_or, take, replicate, ℤ, pos}
use Rattle.std.specs.Int.{w32}
use Rattle.std.proofs.Common.{to_z, of_z}

-- Each element is a byte. Of a slice of bytes this always holds.
abbrev pub Bytes : List ℕ → Type 0
Bytes bs = (i : ℕ) → get_or bs i 0 < 256

-- The number in two and in four bytes from a place, the least byte first. A byte past the end counts as 0.
unfoldable pub two : List ℕ → (at : ℕ) → ℕ
two bs at = get_or bs at 0 + 256 * get_or bs (at + 1) 0

unfoldable pub four : List ℕ → (at : ℕ) → ℕ
four bs at = two bs at + 65536 * two bs (at + 2)

-- The lowest n bytes of a number, the least first.
unfoldable pub low : (n v : ℕ) → List ℕ
low zero v = []
low (suc n) v = (v % 256) ∷ low n (v / 256)

-- Four bytes read as two's complement, and the four bytes of such a number.
unfoldable pub signed_four : List ℕ → (at : ℕ) → ℤ
signed_four bs at = to_z w32 (four bs at)

unfoldable pub signed_low : ℤ → List ℕ
signed_low z = low 4 (of_z w32 z)

-- A list made from `count` places, the first at `at`, each `step` past the one before.
unfoldable pub places : {A : Type 0} → (count at step : ℕ) → (ℕ → A) → List A
places zero at step f = []
places (suc count) at step f = f at ∷ places count (at + step) step f

-- Whether a test holds of each element.
unfoldable pub every : {A : Type 0} → (A → Bool) → List A → Bool
every t [] = true
every t (x ∷ xs) = t x && every t xs

-- A list with one element behind it, again and again, up to a length; and a list with it in each place from one on.
abbrev pub padded : {A : Type 0} → (none : A) → (room : ℕ) → List A → List A
padded none room xs = xs ++ replicate (room - length xs) none

abbrev pub emptied : {A : Type 0} → (none : A) → (from : ℕ) → List A → List A
emptied none from xs = take from xs ++ replicate (length xs - from) none

-- What is written from the front, with zeros behind it to the end of what was lent.
unfoldable pub filled : (room : ℕ) → List ℕ → List ℕ
filled room xs = padded 0 room xs

unfoldable pub signed_filled : (room : ℕ) → List ℤ → List ℤ
signed_filled room xs = padded (pos 0) room xs

-- A buffer with zeros from a place on.
unfoldable pub cleared : (from : ℕ) → List ℕ → List ℕ
cleared from xs = emptied 0 from xs

unfoldable pub signed_cleared : (from : ℕ) → List ℤ → List ℤ
signed_cleared from xs = emptied (pos 0) from xs
