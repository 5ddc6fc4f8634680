-- The paths of the two sides that steps were made from. These are definitions.
use mathlib.Core.List.{List, [], ◌∷◌}
use Prim.Native.Nat.{ℕ}
use Rattle.explore.specs.Explore.{Step}
use Rattle.steps.specs.declared.Origin.{Origin}
use Rattle.steps.specs.declared.Origin.TheVariants.{Left, Right, Both}

-- The left arc of an origin in front of a path, where it has one; the same for the right arc.
unfoldable pub add_left : Origin → List ℕ → List ℕ
add_left (Left i) p = i ∷ p
add_left (Right j) p = p
add_left (Both i j) p = i ∷ p

unfoldable pub add_right : Origin → List ℕ → List ℕ
add_right (Left i) q = q
add_right (Right j) q = j ∷ q
add_right (Both i j) q = j ∷ q

-- The left arcs and the right arcs that the steps come from, in order.
unfoldable pub lefts : {A : Type 0} → List (Step A Origin) → List ℕ
lefts [] = []
lefts (s ∷ ss) = add_left s.origin (lefts ss)

unfoldable pub rights : {A : Type 0} → List (Step A Origin) → List ℕ
rights [] = []
rights (s ∷ ss) = add_right s.origin (rights ss)
