-- What the answers of the calls are made of. Assumes nothing: these are definitions.
use Rattle.std.specs.Prelude.{ℕ, cond, List, length, ◌==◌}
use Rattle.wire.specs.Bytes.{filled, signed_filled}
use Rattle.transducer.specs.Weight.{Weight, no_weight}

-- The first refusal that is not 0, of two tested in this order.
unfoldable pub or_else : (first second : ℕ) → ℕ
or_else a b = cond (a == 0) b a

-- A number of the answer: 0 on every refusal.
unfoldable pub unless : (number value : ℕ) → ℕ
unless number value = cond (number == 0) value 0

unfoldable pub cost_unless : (number : ℕ) → (cost : Weight) → Weight
cost_unless number cost = cond (number == 0) cost no_weight

-- A lent buffer after a refusal of 1 to 10, 14 to 16, 18 or 19 is as it was; on success it holds what is written, zeros behind.
unfoldable pub left_in : (number : ℕ) → (before written : List ℕ) → List ℕ
left_in number before written = cond (number == 0) (filled (length before) written) before

unfoldable pub weights_left_in : (number : ℕ) → (before written : List Weight) → List Weight
weights_left_in number before written = cond (number == 0) (signed_filled (length before) written) before
