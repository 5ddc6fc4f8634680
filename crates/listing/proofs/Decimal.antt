-- Laws of `decimal`: its digits one at a time, and how many there are at most. Assumes nothing.
use mathlib.Core.Path.{◌≡◌, refl, ◌∙◌}
use mathlib.Core.Bool.{Bool, true, false}
use mathlib.Core.List.{[], ◌∷◌, ◌++◌}
use Prim.Native.Nat.{ℕ, zero, suc, ◌+◌, ◌*◌, ◌/◌, ◌%◌, ◌≤◌, ◌<◌}
use native.Mathlib.Omega.{arith}
use borrow.Author.Tests.{lt-ltb, le-ltb, ltb-true, ltb-false}
use lib.Dec.{ltb}
use lib.ListN.{length, length-append}
use Rattle.listing.specs.Text.{digits, decimal}

digits_small : (fuel n : ℕ) → n < 10 → digits fuel n ≡ (48 + n) ∷ []
unfolding digits
digits_small zero n h = refl
digits_small (suc fuel) n h = rw (lt-ltb n 10 h)

digits_large : (fuel n : ℕ) → 10 ≤ n → digits (suc fuel) n ≡ digits fuel (n / 10) ++ ((48 + n % 10) ∷ [])
unfolding digits
digits_large fuel n h = rw (le-ltb n 10 h)

-- Fuel that is enough gives the same digits.
digits_enough : (f g n : ℕ) → n ≤ f → n ≤ g → digits f n ≡ digits g n
digits_enough zero g n p q = digits_small 0 n (omega arith) ∙ on
  where
    on : (48 + n) ∷ [] ≡ digits g n
    on = rw (digits_small g n (omega arith))
digits_enough (suc f) zero n p q = rw (digits_small (suc f) n (omega arith), digits_small 0 n (omega arith))
digits_enough (suc f) (suc g) n p q = on (ltb n 10) refl (λ a b. digits_enough f g (n / 10) a b)
  where
    on : (b : Bool) → ltb n 10 ≡ b → (n / 10 ≤ f → n / 10 ≤ g → digits f (n / 10) ≡ digits g (n / 10)) → digits (suc f) n ≡ digits (suc g) n
    on true e below =
        let small : n < 10 = ltb-true n 10 e in
        rw (digits_small (suc f) n small, digits_small (suc g) n small)
    on false e below =
        let large : 10 ≤ n = ltb-false n 10 e in
        rw (digits_large f n large, digits_large g n large, below (omega arith) (omega arith))

pub decimal_small : (n : ℕ) → n < 10 → decimal n ≡ (48 + n) ∷ []
unfolding decimal
decimal_small n h = digits_small n n h

pub decimal_large : (n : ℕ) → 10 ≤ n → decimal n ≡ decimal (n / 10) ++ ((48 + n % 10) ∷ [])
unfolding decimal
decimal_large zero h = absurd (omega arith)
decimal_large (suc m) h = rw (digits_large m (suc m) h, digits_enough m (suc m / 10) (suc m / 10) (omega arith) (omega arith))

-- How many digits there are.

pub length_decimal_small : (n : ℕ) → n < 10 → length (decimal n) ≡ 1
length_decimal_small n h = rw (decimal_small n h)

pub length_decimal_large : (n : ℕ) → 10 ≤ n → length (decimal n) ≡ length (decimal (n / 10)) + 1
length_decimal_large n h = rw (decimal_large n h, length-append)

-- At most so many.

one_digit : (n : ℕ) → n < 10 → length (decimal n) ≤ 1
one_digit n h = omega (arith, length_decimal_small n h)

one_digit_more : (d m : ℕ) → ((n : ℕ) → n < m → length (decimal n) ≤ d) → (n : ℕ) → n < 10 * m → length (decimal n) ≤ d + 1
one_digit_more d m most n h = on (ltb n 10) refl
  where
    on : (b : Bool) → ltb n 10 ≡ b → length (decimal n) ≤ d + 1
    on true e = omega (arith, one_digit n (ltb-true n 10 e))
    on false e =
        let below : length (decimal (n / 10)) ≤ d = most (n / 10) (omega arith) in
        omega (arith, length_decimal_large n (ltb-false n 10 e))

pub two_digits : (n : ℕ) → n < 100 → length (decimal n) ≤ 2
two_digits = one_digit_more 1 10 one_digit

pub five_digits : (n : ℕ) → n < 100000 → length (decimal n) ≤ 5
five_digits = one_digit_more 4 10000 (one_digit_more 3 1000 (one_digit_more 2 100 two_digits))

pub ten_digits : (n : ℕ) → n < 10000000000 → length (decimal n) ≤ 10
ten_digits =
    one_digit_more 9 1000000000 (one_digit_more 8 100000000 (one_digit_more 7 10000000
    (one_digit_more 6 1000000 (one_digit_more 5 100000 five_digits))))
