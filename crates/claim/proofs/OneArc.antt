-- A transducer of one arc, as bytes, for instances of claims. Assumes nothing.
use mathlib.Core.Path.{◌≡◌}
use mathlib.Core.Bool.{true}
use mathlib.Core.List.{List, [], ◌∷◌}
use Prim.Native.Nat.{ℕ, zero, suc}
use native.Mathlib.Omega.{arith}
use borrow.Author.Tests.{ltb-true}
use lib.Dec.{ltb}
use Rattle.wire.specs.Bytes.{Bytes, every}
use Rattle.wire.proofs.Bool.{and-true}

-- One arc from state 0 to state 1, which is final.
unfoldable pub one_arc : (input output weight : ℕ) → List ℕ
one_arc input output weight =
    8 ∷ 0 ∷ 1 ∷ 0 ∷ 2 ∷ 0 ∷ 1 ∷ 0 ∷ 1 ∷ 0 ∷ 0 ∷ 0
    ∷ 6 ∷ 0 ∷ 2 ∷ 0 ∷ 1 ∷ 0 ∷ 0 ∷ 0 ∷ 0 ∷ 0
    ∷ 12 ∷ 0 ∷ 3 ∷ 0 ∷ 0 ∷ 0 ∷ input ∷ 0 ∷ output ∷ 0 ∷ 1 ∷ 0 ∷ weight ∷ 0 ∷ 0 ∷ 0 ∷ []

pub all_bytes : (xs : List ℕ) → every (λ x. ltb x 256) xs ≡ true → Bytes xs
unfolding every
all_bytes [] h i = omega arith
all_bytes (x ∷ xs) h zero = ltb-true x 256 (and-true (ltb x 256) (every (λ x. ltb x 256) xs) h).0
all_bytes (x ∷ xs) h (suc i) = all_bytes xs (and-true (ltb x 256) (every (λ x. ltb x 256) xs) h).1 i
