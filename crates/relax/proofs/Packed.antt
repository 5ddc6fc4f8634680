-- Sizes as numbers: what a number is made of, and that numbers compare as sizes do. Assumes nothing.
use mathlib.Core.Path.{◌≡◌, refl, sym}
use mathlib.Core.Bool.{Bool, true, false, ◌&&◌, ◌||◌}
use Prim.Native.Nat.{ℕ, ◌+◌, ◌*◌, ◌/◌, ◌%◌, ◌≤◌, ◌<◌}
use native.Mathlib.Nat.{add-mul-div_left, div-eq_of_lt}
use native.Mathlib.Omega.{arith}
use lib.Dec.{ltb, leb, lit<}
use borrow.Author.Tests.{ltb-true, ltb-false, leb-true, leb-false, lt-ltb, le-ltb}
use Rattle.transducer.proofs.Fields.{low_of}
use Rattle.relax.specs.Tentative.{packed, unpacked, labels_of, longer}

high_of : (a b : ℕ) → a < 65536 → (a + 65536 * b) / 65536 ≡ b
high_of a b h = omega (arith, add-mul-div_left a b {y = 65536} (lit< tt), div-eq_of_lt h)

pub pack_unpack : (n : ℕ) → packed (unpacked n) ≡ n
unfolding unpacked
pack_unpack n = omega arith

pub unpack_none : unpacked 0 ≡ record { labels = 0; arcs = 0 }
unfolding unpacked
unpack_none = refl

-- One arc more.
pub unpack_longer : (n output r : ℕ) → (unpacked n).arcs + 1 < 65536 → r ≡ 1 + 65536 * labels_of output → unpacked (n + r) ≡ longer output (unpacked n)
unfolding unpacked longer
unpack_longer n output r h e =
    let a : ℕ = n % 65536 in
    let b : ℕ = n / 65536 in
    let split : n + r ≡ a + 1 + 65536 * (b + labels_of output) = omega (arith, e) in
    rw (split, high_of (n % 65536 + 1) (n / 65536 + labels_of output) h, low_of (n % 65536 + 1) (n / 65536 + labels_of output) h) refl

-- Numbers compare as what they are made of.
pub pair_order : (n m : ℕ) → ltb (n / 65536) (m / 65536) || (leb (n / 65536) (m / 65536) && ltb (n % 65536) (m % 65536)) ≡ ltb n m
pair_order n m = on (ltb (n / 65536) (m / 65536)) refl
  where
    low : (b : Bool) → ltb n m ≡ b → n / 65536 ≡ m / 65536 → ltb (n % 65536) (m % 65536) ≡ ltb n m
    low true e same = rw (e, lt-ltb (n % 65536) (m % 65536) (omega (arith, ltb-true n m e))) refl
    low false e same = rw (e, le-ltb (n % 65536) (m % 65536) (omega (arith, ltb-false n m e))) refl

    at : (b : Bool) → leb (n / 65536) (m / 65536) ≡ b → m / 65536 ≤ n / 65536 → b && ltb (n % 65536) (m % 65536) ≡ ltb n m
    at true e h = low (ltb n m) refl (omega (arith, leb-true (n / 65536) (m / 65536) e))
    at false e h = sym (le-ltb n m (omega (arith, leb-false (n / 65536) (m / 65536) e)))

    on : (b : Bool) → ltb (n / 65536) (m / 65536) ≡ b
        → ltb (n / 65536) (m / 65536) || (leb (n / 65536) (m / 65536) && ltb (n % 65536) (m % 65536)) ≡ ltb n m
    on true e = rw (e, lt-ltb n m (omega (arith, ltb-true (n / 65536) (m / 65536) e))) refl
    on false e = rw e (at (leb (n / 65536) (m / 65536)) refl (ltb-false (n / 65536) (m / 65536) e))
