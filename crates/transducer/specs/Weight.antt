-- Weights: a path costs the sum of its weights, and the least cost is the best. With `weight_at` and `weight_good` (Format) these are all
-- that is said of weights; that they are whole numbers of either sign is said here alone. Assumes nothing: these are definitions.
use Rattle.std.specs.Prelude.{ℕ, ◌+◌, ◌-◌, Bool, ℤ, pos, ◌+ℤ◌, ◌-ℤ◌, neg_ℤ, ◌≤ℤ◌, ◌<ℤ◌, int_le, int_lt, unsigned_abs}
use Rattle.bounds.specs.Bounds.{min_weight}

abbrev pub Weight : Type 0
Weight = ℤ

-- The weight of nothing, so many units above and below it, and two weights together.
abbrev pub no_weight : Weight
no_weight = pos 0

abbrev pub amount : ℕ → Weight
amount n = pos n

abbrev pub rebate : ℕ → Weight
rebate n = neg_ℤ (pos n)

abbrev pub plus : (a b : Weight) → Weight
plus a b = a +ℤ b

-- The order: a is at most b, a is below b; and the tests.
abbrev pub AtMost : (a b : Weight) → Type 0
AtMost a b = a ≤ℤ b

abbrev pub Below : (a b : Weight) → Type 0
Below a b = a <ℤ b

abbrev pub at_most : (a b : Weight) → Bool
at_most a b = int_le a b

abbrev pub below : (a b : Weight) → Bool
below a b = int_lt a b

-- How far a weight is from nothing, on either side.
abbrev pub magnitude : Weight → ℕ
magnitude w = unsigned_abs w

-- A weight as a number from 1 on, the least weight as 1, so that 0 can stand for none; and back.
unfoldable pub code_of : Weight → ℕ
code_of w = unsigned_abs (w -ℤ min_weight) + 1

unfoldable pub weight_of : (code : ℕ) → Weight
weight_of code = pos (code - 1) +ℤ min_weight
