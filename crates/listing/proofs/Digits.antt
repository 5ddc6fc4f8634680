-- A number is read back from its decimal digits, also where something else follows them. Assumes nothing.
use mathlib.Core.Path.{◌≡◌, refl, sym, ap, ◌∙◌}
use mathlib.Core.Bool.{Bool, true, false, ◌&&◌, cond}
use mathlib.Core.List.{List, [], ◌∷◌, ◌++◌}
use Prim.Native.Nat.{ℕ, zero, suc, ◌+◌, ◌*◌, ◌-◌, ◌/◌, ◌%◌, ◌≤◌, ◌<◌}
use native.Mathlib.Omega.{arith}
use borrow.Author.Tests.{ltb-true, ltb-false, le-leb}
use lib.Dec.{ltb, leb}
use Rattle.wire.specs.Bytes.{every}
use Rattle.wire.proofs.Bool.{and-true}
use Rattle.listing.specs.Text.{decimal}
use Rattle.listing.proofs.Decimal.{decimal_small, decimal_large}

unfoldable pub is_digit : ℕ → Bool
is_digit x = leb 48 x && leb x 57

digit_is : (d : ℕ) → d < 10 → is_digit (48 + d) ≡ true
unfolding is_digit
digit_is d h = rw (le-leb 48 (48 + d) (omega arith), le-leb (48 + d) 57 (omega arith))

every_snoc : (xs : List ℕ) (x : ℕ) → every is_digit xs ≡ true → is_digit x ≡ true → every is_digit (xs ++ (x ∷ [])) ≡ true
unfolding every
every_snoc [] x h e = rw e
every_snoc (y ∷ xs) x h e =
    let both = and-true (is_digit y) (every is_digit xs) h in
    rw (both.0, every_snoc xs x both.1 e)

-- Only digits, and the number that they are.
unfoldable value : (sum : ℕ) → List ℕ → ℕ
value sum [] = sum
value sum (x ∷ xs) = value (10 * sum + (x - 48)) xs

value_snoc : (sum : ℕ) (xs : List ℕ) (x : ℕ) → value sum (xs ++ (x ∷ [])) ≡ 10 * value sum xs + (x - 48)
unfolding value
value_snoc sum [] x = refl
value_snoc sum (y ∷ xs) x = value_snoc (10 * sum + (y - 48)) xs x

record ReadsBack (n : ℕ) : Type 0 where
  digits : every is_digit (decimal n) ≡ true
  is : value 0 (decimal n) ≡ n

reads_back_within : (m n : ℕ) → n < m → ReadsBack n
unfolding every value
reads_back_within zero n h = absurd (omega arith)
reads_back_within (suc m) n h = on (ltb n 10) refl (λ k l. reads_back_within m k l)
  where
    on : (b : Bool) → ltb n 10 ≡ b → ((k : ℕ) → k < m → ReadsBack k) → ReadsBack n
    on true e below =
        let small : n < 10 = ltb-true n 10 e in
        record {
          digits = rw (decimal_small n small, digit_is n small);
          is = rw (decimal_small n small) (omega arith);
        }
    on false e below =
        let large : 10 ≤ n = ltb-false n 10 e in
        let r : ReadsBack (n / 10) = below (n / 10) (omega arith) in
        record {
          digits = rw (decimal_large n large) (every_snoc (decimal (n / 10)) (48 + n % 10) r.digits (digit_is (n % 10) (omega arith)));
          is = rw (decimal_large n large, value_snoc 0 (decimal (n / 10)) (48 + n % 10), r.is) (omega arith);
        }

reads_back : (n : ℕ) → ReadsBack n
reads_back n = reads_back_within (suc n) n (omega arith)

pub decimal_injective : (n m : ℕ) → decimal n ≡ decimal m → n ≡ m
decimal_injective n m e = sym (reads_back n).is ∙ (ap (value 0) e ∙ (reads_back m).is)

-- The digits at the front of a text, and what follows them.
unfoldable pub front_digits : List ℕ → List ℕ
front_digits [] = []
front_digits (x ∷ xs) = cond (is_digit x) (x ∷ front_digits xs) []

unfoldable pub behind_digits : List ℕ → List ℕ
behind_digits [] = []
behind_digits (x ∷ xs) = cond (is_digit x) (behind_digits xs) (x ∷ xs)

front_of : (xs rest : List ℕ) → every is_digit xs ≡ true → front_digits (xs ++ (10 ∷ rest)) ≡ xs
unfolding every front_digits is_digit
front_of [] rest h = refl
front_of (x ∷ xs) rest h =
    let both = and-true (leb 48 x && leb x 57) (every is_digit xs) h in
    rw (both.0, front_of xs rest both.1)

behind_of : (xs rest : List ℕ) → every is_digit xs ≡ true → behind_digits (xs ++ (10 ∷ rest)) ≡ 10 ∷ rest
unfolding every behind_digits is_digit
behind_of [] rest h = refl
behind_of (x ∷ xs) rest h =
    let both = and-true (leb 48 x && leb x 57) (every is_digit xs) h in
    rw both.0 (behind_of xs rest both.1)

pub front_decimal : (n : ℕ) (rest : List ℕ) → front_digits (decimal n ++ (10 ∷ rest)) ≡ decimal n
front_decimal n rest = front_of (decimal n) rest (reads_back n).digits

pub behind_decimal : (n : ℕ) (rest : List ℕ) → behind_digits (decimal n ++ (10 ∷ rest)) ≡ 10 ∷ rest
behind_decimal n rest = behind_of (decimal n) rest (reads_back n).digits
