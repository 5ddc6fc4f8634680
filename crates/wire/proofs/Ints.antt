-- Linear arithmetic over ℤ by `omega`. A number stands as two natural numbers, how much it is over 0 and how much under 0: `omega` reads
-- those, the rules of `signs` turn orders, tests and equations of ℤ to them, and `sum`, `difference` and `minus` say what an
-- operation makes of them.
--     omega (arith, sums)       orders, tests and equations of numbers and of sums of two
--     omega (arith, bits)       the same where a number is read back from its bits, as in proofs of code
--     sum x y, size x, ..       listed besides for a sum within a sum, a size that is asked, ..
-- Assumes nothing.
use mathlib.Core.Path.{◌≡◌, refl, sym, ap, ◌∙◌, subst}
use mathlib.Core.Bool.{Bool, true, false, cond}
use mathlib.Core.Logic.{◌⊎◌, inl, inr}
use Prim.Native.Nat.{ℕ, zero, suc, ◌+◌, ◌-◌, ◌≤◌, ◌<◌, min}
use native.Mathlib.Omega.{arith}
use lib.Dec.{T, ltb, leb, leb→le, le→leb, ltb→lt, lt→ltb}
use lib.IntN.{ℤ, pos, negsuc, ◌+ℤ◌, ◌-ℤ◌, neg_ℤ, sub_ℕ}
use lib.Signed.{mag, le_z, lt_z, ◌≤ℤ◌, ◌<ℤ◌}
use mir.Syntax.{Width, w32, w64}
use mir.Val.{SFits, to_z, of_z}
use mir.Facts.{to_z-of_z}
use borrow.Author.Tests.{ltb-true, ltb-false, leb-true, leb-false, lt-ltb, le-ltb, le-leb, lt-leb}

abbrev pub over : ℤ → ℕ
over (pos n) = n
over (negsuc n) = 0

abbrev pub under : ℤ → ℕ
under (pos n) = 0
under (negsuc n) = suc n

-- What the operations make of them.

sub_sides : (a b : ℕ) → over (sub_ℕ a b) + b ≡ a + under (sub_ℕ a b)
sub_sides a b = on (ltb a b) refl
  where
    on : (t : Bool) → ltb a b ≡ t → over (cond t (negsuc (b - suc a)) (pos (a - b))) + b ≡ a + under (cond t (negsuc (b - suc a)) (pos (a - b)))
    on true e = omega (arith, ltb-true)
    on false e = omega (arith, ltb-false)

pub sum : (x y : ℤ) → over (x +ℤ y) + (under x + under y) ≡ over x + over y + under (x +ℤ y)
sum (pos a) (pos b) = omega arith
sum (pos a) (negsuc b) = omega (arith, sub_sides a (suc b))
sum (negsuc a) (pos b) = omega (arith, sub_sides b (suc a))
sum (negsuc a) (negsuc b) = omega arith

pub minus : (x : ℤ) → over (neg_ℤ x) + over x ≡ under (neg_ℤ x) + under x
minus (pos zero) = omega arith
minus (pos (suc n)) = omega arith
minus (negsuc n) = omega arith

pub difference : (x y : ℤ) → over (x -ℤ y) + (under x + over y) ≡ over x + under y + under (x -ℤ y)
difference x y = omega (arith, sum x (neg_ℤ y), minus y)

-- The tests are those of ℕ.

leb_as : (a b c d : ℕ) → (a ≤ b → c ≤ d) → (c ≤ d → a ≤ b) → leb a b ≡ leb c d
leb_as a b c d f g = on (leb a b) (leb c d) refl refl
  where
    on : (s t : Bool) → leb a b ≡ s → leb c d ≡ t → s ≡ t
    on true true p q = refl
    on true false p q = absurd (omega (arith, f (leb-true a b p), leb-false))
    on false true p q = absurd (omega (arith, g (leb-true c d q), leb-false))
    on false false p q = refl

pub le_is : (x y : ℤ) → le_z x y ≡ leb (over x + under y) (over y + under x)
le_is (pos a) (pos b) = leb_as a b (a + 0) (b + 0) (omega arith) (omega arith)
le_is (pos a) (negsuc b) = sym (lt-leb (a + suc b) 0 (omega arith))
le_is (negsuc a) (pos b) = sym (le-leb 0 (b + suc a) (omega arith))
le_is (negsuc a) (negsuc b) = leb_as b a (0 + suc b) (0 + suc a) (omega arith) (omega arith)

pub lt_is : (x y : ℤ) → lt_z x y ≡ ltb (over x + under y) (over y + under x)
lt_is (pos a) (pos b) = leb_as (suc a) b (suc (a + 0)) (b + 0) (omega arith) (omega arith)
lt_is (pos a) (negsuc b) = sym (le-ltb (a + suc b) 0 (omega arith))
lt_is (negsuc a) (pos b) = sym (lt-ltb 0 (b + suc a) (omega arith))
lt_is (negsuc a) (negsuc b) = leb_as (suc b) a (suc (0 + suc b)) (0 + suc a) (omega arith) (omega arith)

-- Tests, orders and equations, read and proved.

pub le_true : (x y : ℤ) → le_z x y ≡ true → over x + under y ≤ over y + under x
le_true x y e = leb-true _ _ (sym (le_is x y) ∙ e)

pub le_false : (x y : ℤ) → le_z x y ≡ false → over y + under x < over x + under y
le_false x y e = leb-false _ _ (sym (le_is x y) ∙ e)

pub lt_true : (x y : ℤ) → lt_z x y ≡ true → over x + under y < over y + under x
lt_true x y e = ltb-true _ _ (sym (lt_is x y) ∙ e)

pub lt_false : (x y : ℤ) → lt_z x y ≡ false → over y + under x ≤ over x + under y
lt_false x y e = ltb-false _ _ (sym (lt_is x y) ∙ e)

pub true_le : (x y : ℤ) → over x + under y ≤ over y + under x → le_z x y ≡ true
true_le x y h = le_is x y ∙ le-leb _ _ h

pub false_le : (x y : ℤ) → over y + under x < over x + under y → le_z x y ≡ false
false_le x y h = le_is x y ∙ lt-leb _ _ h

pub true_lt : (x y : ℤ) → over x + under y < over y + under x → lt_z x y ≡ true
true_lt x y h = lt_is x y ∙ lt-ltb _ _ h

pub false_lt : (x y : ℤ) → over y + under x ≤ over x + under y → lt_z x y ≡ false
false_lt x y h = lt_is x y ∙ le-ltb _ _ h

pub le_read : (x y : ℤ) → x ≤ℤ y → over x + under y ≤ over y + under x
le_read x y h = leb→le _ _ (subst T (le_is x y) h.le)

pub le_says : (x y : ℤ) → over x + under y ≤ over y + under x → x ≤ℤ y
le_says x y h = record { le = subst T (sym (le_is x y)) (le→leb _ _ h) }

pub lt_read : (x y : ℤ) → x <ℤ y → over x + under y < over y + under x
lt_read x y h = ltb→lt _ _ (subst T (lt_is x y) h.lt)

pub lt_says : (x y : ℤ) → over x + under y < over y + under x → x <ℤ y
lt_says x y h = record { lt = subst T (sym (lt_is x y)) (lt→ltb _ _ h) }

pub same_read : (x y : ℤ) → x ≡ y → over x + under y ≡ over y + under x
same_read x y e = rw e refl

pub same_says : (x y : ℤ) → over x + under y ≡ over y + under x → x ≡ y
same_says (pos a) (pos b) h = ap pos (omega arith)
same_says (pos a) (negsuc b) h = absurd (omega arith)
same_says (negsuc a) (pos b) h = absurd (omega arith)
same_says (negsuc a) (negsuc b) h = ap negsuc (omega arith)

pub false_true : false ≡ true → ⊥
false_true e = subst (λ (b : Bool). cond b ⊥ Unit) e tt

pub true_false : true ≡ false → ⊥
true_false e = false_true (sym e)

pub ruleset signs = (
  false_true,
  true_false,
  le_true,
  le_false,
  lt_true,
  lt_false,
  true_le,
  false_le,
  true_lt,
  false_lt,
  le_read,
  le_says,
  lt_read,
  lt_says,
  same_read,
  same_says,
)

-- Each two are in order, one way or the other.
pub either : (x y : ℤ) → (y ≤ℤ x) ⊎ (x <ℤ y)
either x y = on (le_z y x) refl
  where
    on : (t : Bool) → le_z y x ≡ t → (y ≤ℤ x) ⊎ (x <ℤ y)
    on true e = inl (omega (arith, signs))
    on false e = inr (omega (arith, signs))

-- The same where a side is a sum, so that `sum` need not be listed for it. A rule is taken in the order of the list: these stand first.

pub le_sums_read : (a b c d : ℤ) → (a +ℤ b) ≤ℤ (c +ℤ d) → over a + over b + (under c + under d) ≤ over c + over d + (under a + under b)
le_sums_read a b c d h = omega (arith, signs, sum a b, sum c d)

pub le_sums_says : (a b c d : ℤ) → over a + over b + (under c + under d) ≤ over c + over d + (under a + under b) → (a +ℤ b) ≤ℤ (c +ℤ d)
le_sums_says a b c d h = omega (arith, signs, sum a b, sum c d)

pub lt_sums_read : (a b c d : ℤ) → (a +ℤ b) <ℤ (c +ℤ d) → over a + over b + (under c + under d) < over c + over d + (under a + under b)
lt_sums_read a b c d h = omega (arith, signs, sum a b, sum c d)

pub lt_sums_says : (a b c d : ℤ) → over a + over b + (under c + under d) < over c + over d + (under a + under b) → (a +ℤ b) <ℤ (c +ℤ d)
lt_sums_says a b c d h = omega (arith, signs, sum a b, sum c d)

pub same_sums_read : (a b c d : ℤ) → (a +ℤ b) ≡ (c +ℤ d) → over a + over b + (under c + under d) ≡ over c + over d + (under a + under b)
same_sums_read a b c d h = omega (arith, signs, sum a b, sum c d)

pub same_sums_says : (a b c d : ℤ) → over a + over b + (under c + under d) ≡ over c + over d + (under a + under b) → (a +ℤ b) ≡ (c +ℤ d)
same_sums_says a b c d h = omega (arith, signs, sum a b, sum c d)

pub le_sum_read : (a b x : ℤ) → (a +ℤ b) ≤ℤ x → over a + over b + under x ≤ over x + (under a + under b)
le_sum_read a b x h = omega (arith, signs, sum a b)

pub le_sum_says : (a b x : ℤ) → over a + over b + under x ≤ over x + (under a + under b) → (a +ℤ b) ≤ℤ x
le_sum_says a b x h = omega (arith, signs, sum a b)

pub lt_sum_read : (a b x : ℤ) → (a +ℤ b) <ℤ x → over a + over b + under x < over x + (under a + under b)
lt_sum_read a b x h = omega (arith, signs, sum a b)

pub lt_sum_says : (a b x : ℤ) → over a + over b + under x < over x + (under a + under b) → (a +ℤ b) <ℤ x
lt_sum_says a b x h = omega (arith, signs, sum a b)

pub same_sum_read : (a b x : ℤ) → (a +ℤ b) ≡ x → over a + over b + under x ≡ over x + (under a + under b)
same_sum_read a b x h = omega (arith, signs, sum a b)

pub same_sum_says : (a b x : ℤ) → over a + over b + under x ≡ over x + (under a + under b) → (a +ℤ b) ≡ x
same_sum_says a b x h = omega (arith, signs, sum a b)

pub le_to_sum_read : (x a b : ℤ) → x ≤ℤ (a +ℤ b) → over x + (under a + under b) ≤ over a + over b + under x
le_to_sum_read x a b h = omega (arith, signs, sum a b)

pub le_to_sum_says : (x a b : ℤ) → over x + (under a + under b) ≤ over a + over b + under x → x ≤ℤ (a +ℤ b)
le_to_sum_says x a b h = omega (arith, signs, sum a b)

pub lt_to_sum_read : (x a b : ℤ) → x <ℤ (a +ℤ b) → over x + (under a + under b) < over a + over b + under x
lt_to_sum_read x a b h = omega (arith, signs, sum a b)

pub lt_to_sum_says : (x a b : ℤ) → over x + (under a + under b) < over a + over b + under x → x <ℤ (a +ℤ b)
lt_to_sum_says x a b h = omega (arith, signs, sum a b)

pub same_to_sum_read : (x a b : ℤ) → x ≡ (a +ℤ b) → over x + (under a + under b) ≡ over a + over b + under x
same_to_sum_read x a b h = omega (arith, signs, sum a b)

pub same_to_sum_says : (x a b : ℤ) → over x + (under a + under b) ≡ over a + over b + under x → x ≡ (a +ℤ b)
same_to_sum_says x a b h = omega (arith, signs, sum a b)

pub ruleset sums = (
  le_sums_read,
  lt_sums_read,
  same_sums_read,
  le_sum_read,
  lt_sum_read,
  same_sum_read,
  le_to_sum_read,
  lt_to_sum_read,
  same_to_sum_read,
  le_sums_says,
  lt_sums_says,
  same_sums_says,
  le_sum_says,
  lt_sum_says,
  same_sum_says,
  le_to_sum_says,
  lt_to_sum_says,
  same_to_sum_says,
  signs,
)

-- The size of a number.
pub size : (x : ℤ) → (mag x ≡ over x + (under x - 1)) × (min (over x) (under x) ≡ 0)
size (pos n) = omega arith
size (negsuc n) = omega arith

-- 32 bits go into 64.

pub wider : (x : ℤ) → SFits w32 x → SFits w64 x
wider x f = record { sfits = omega (arith, sums, size x, f.sfits) }

-- A number that fits, read back from its bits.

pub back : {w : Width} (x : ℤ) → SFits w x → over (to_z w (of_z w x)) + under x ≡ over x + under (to_z w (of_z w x))
back x f = same_read _ x (to_z-of_z f)

pub ruleset bits = (sums, back)
