-- What composition claims: its accepting paths and the pairs of the two transducers stand one to one, and least costs are least sums.
-- Assumes nothing: these are definitions.
use Rattle.std.specs.Prelude.{◌≡◌, true, cond, ◌↔◌, List, [], ◌∷◌, map, ℕ, ◌+◌, ◌*◌, eqb, get_or}
use Rattle.transducer.specs.Format.{Transducer, barred}
use Rattle.transducer.specs.Path.{accepts, read_by, written_by, path_cost}
use Rattle.transducer.specs.Each.{path_fits, path_passed}
use Rattle.transducer.specs.Weight.{Weight, plus, AtMost}

-- The arc numbers met, 65,535 being passed over.
unfoldable pub led : List ℕ → List ℕ
led [] = []
led (i ∷ is) = cond (eqb i barred) (led is) (i ∷ led is)

-- Where a path leads: the left arcs met (side 0) or the right ones (side 1), the origins of arc i standing at 2 i and 2 i + 1.
unfoldable pub met_at : (origins : List ℕ) → (side : ℕ) → (path : List ℕ) → List ℕ
met_at origins side path = led (map (λ i. get_or origins (2 * i + side) 0) path)

-- A pair: an accepting left path and an accepting right path that, arc by arc, fits what the left one writes. Either may be empty.
pub record Pair (t u : Transducer) (left right : List ℕ) : Type 0 where
  pub left_accepts : accepts t left ≡ true
  pub right_accepts : accepts u right ≡ true
  pub meets : path_fits u (written_by t left) right ≡ true

-- A path stands for a pair: it reads what the left path reads, writes what the right one writes for that, with the symbols that it passes on,
-- and costs both together.
pub record StandsFor (t u z : Transducer) (path left right : List ℕ) : Type 0 where
  pub pair : Pair t u left right
  pub reads : read_by z path ≡ read_by t left
  pub writes : written_by z path ≡ path_passed u (written_by t left) right
  pub costs : path_cost z path ≡ plus (path_cost t left) (path_cost u right)

-- Each accepting path leads to a pair that it stands for, never two to the same pair, and to every pair some path.
pub record OneToOne (t u z : Transducer) (origins : List ℕ) : Type 0 where
  pub leads : (p : List ℕ) → accepts z p ≡ true → StandsFor t u z p (met_at origins 0 p) (met_at origins 1 p)
  pub never_two : (p q : List ℕ) → accepts z p ≡ true → accepts z q ≡ true → met_at origins 0 p ≡ met_at origins 0 q
      → met_at origins 1 p ≡ met_at origins 1 q → p ≡ q
  pub every : (x y : List ℕ) → Pair t u x y → (p : List ℕ) × (accepts z p ≡ true) × (met_at origins 0 p ≡ x) × (met_at origins 1 p ≡ y)

-- The least cost of what has a property.
pub record Least (X : Type 0) (P : X → Type 0) (cost : X → Weight) (c : Weight) : Type 0 where
  pub best : X
  pub holds : P best
  pub costs : cost best ≡ c
  pub least : (x : X) → P x → AtMost c (cost x)

-- An accepting path that reads one string and writes another.
pub record PathBetween (z : Transducer) (input output : List ℕ) (path : List ℕ) : Type 0 where
  pub accepting : accepts z path ≡ true
  pub reads : read_by z path ≡ input
  pub writes : written_by z path ≡ output

-- Two paths, the left one and the right one.
pub record TwoPaths : Type 0 where
  pub left : List ℕ
  pub right : List ℕ

-- A pair of which the left path reads one string and the right path writes another for what the left one writes.
pub record PairBetween (t u : Transducer) (input output : List ℕ) (paths : TwoPaths) : Type 0 where
  pub pair : Pair t u paths.left paths.right
  pub reads : read_by t paths.left ≡ input
  pub writes : path_passed u (written_by t paths.left) paths.right ≡ output

-- For every input and output string the least cost over accepting paths is the least sum over pairs, where either exists.
unfoldable pub LeastSums : (t u z : Transducer) → Type 0
LeastSums t u z =
    (input output : List ℕ) (c : Weight)
    → Least (List ℕ) (PathBetween z input output) (path_cost z) c
    ↔ Least TwoPaths (PairBetween t u input output) (λ paths. plus (path_cost t paths.left) (path_cost u paths.right)) c
