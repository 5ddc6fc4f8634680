-- Laws of Bool that proofs of every crate cite.
--     by_test, clash, never            cases on a test, and tests that cannot be
--     is_true, is_false, same_truth    a test's answer from what it says
--     and-true, or-true, or_false      what a joined test's answer says of its parts
--     true_and, or_left, or_right      a joined test from its parts
--     passed, not_raised, ..           what a chain of refusals says that gives 0
-- The kit has the equations (`mathlib.Core.Bool`: b && true, b && false, b || false, b && b, and-assoc, or-assoc) and what a test of numbers or a negated
-- test says (`borrow.Author.Tests`). Assumes nothing.
use mathlib.Core.Path.{◌≡◌, refl, sym}
use mathlib.Core.Bool.{Bool, true, false, ◌&&◌, ◌||◌, not, cond, false≢true}
use mathlib.Core.Logic.{◌⊎◌, inl, inr}
use Prim.Native.Nat.{ℕ, suc, ◌≤◌}
use native.Mathlib.Omega.{arith}
use borrow.Author.Tests.{not-false}

-- Cases, each with its equation.
pub by_test : {C : Type 0} (b : Bool) → (b ≡ true → C) → (b ≡ false → C) → C
by_test true f g = f refl
by_test false f g = g refl

pub never : {C : Type 0} → false ≡ true → C
never h = absurd (false≢true h)

-- A test has one answer.
pub clash : {C : Type 0} {b : Bool} → b ≡ true → b ≡ false → C
clash h k = never (rw h at (sym k))

pub is_true : (b : Bool) → (b ≡ false → ⊥) → b ≡ true
is_true true h = refl
is_true false h = absurd (h refl)

pub is_false : (b : Bool) → (b ≡ true → ⊥) → b ≡ false
is_false true h = absurd (h refl)
is_false false h = refl

pub same_truth : (a b : Bool) → (a ≡ true → b ≡ true) → (b ≡ true → a ≡ true) → a ≡ b
same_truth true b f g = sym (f refl)
same_truth false b f g = sym (is_false b (λ h. never (g h)))

-- Joined tests

pub and-true : (a b : Bool) → a && b ≡ true → (a ≡ true) × (b ≡ true)
and-true true b h = (refl, h)
and-true false b h = never h

pub true_and : (a b : Bool) → a ≡ true → b ≡ true → a && b ≡ true
true_and a b p q = rw (p, q)

pub or-true : (a b : Bool) → a || b ≡ true → (a ≡ true) ⊎ (b ≡ true)
or-true true b h = inl refl
or-true false b h = inr h

pub or_false : (a b : Bool) → a || b ≡ false → (a ≡ false) × (b ≡ false)
or_false true b h = never (sym h)
or_false false b h = (refl, h)

pub or_left : (a b : Bool) → a ≡ true → a || b ≡ true
or_left a b h = rw h

pub or_right : (a b : Bool) → b ≡ true → a || b ≡ true
or_right true b h = refl
or_right false b h = h

-- Choices of a number

-- A choice is no more than the larger of the two.
pub cond_most : {n : ℕ} (b : Bool) (x y : ℕ) → x ≤ n → y ≤ n → cond b x y ≤ n
cond_most true x y p q = p
cond_most false x y p q = q

-- A chain of refusals that gives 0: its first test raises none, and neither does the rest.
pub not_raised : (b : Bool) (k r : ℕ) → cond b (suc k) r ≡ 0 → (b ≡ false) × (r ≡ 0)
not_raised true k r h = absurd (omega arith)
not_raised false k r h = (refl, h)

pub passed : (b : Bool) (k r : ℕ) → cond (not b) (suc k) r ≡ 0 → (b ≡ true) × (r ≡ 0)
passed b k r h = (not-false b (not_raised (not b) k r h).0, (not_raised (not b) k r h).1)

-- The last of a chain.
pub passed_last : (b : Bool) (k : ℕ) → cond b 0 (suc k) ≡ 0 → b ≡ true
passed_last true k h = refl
passed_last false k h = absurd (omega arith)

pub raised_last : (b : Bool) (k : ℕ) → cond b (suc k) 0 ≡ suc k → b ≡ true
raised_last true k h = refl
raised_last false k h = absurd (omega arith)
