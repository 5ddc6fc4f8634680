-- What both calls begin with: arrays of zeros, the numbers of accepted bytes and the cost of the empty path from each state. Assumes nothing: these are
-- definitions.
use Rattle.std.specs.Prelude.{◌≡◌, List, ℕ, ◌≤◌, ◌<◌, length, get_or}
use Rattle.transducer.specs.declared.preparing.Shape.{Shape}
use Rattle.transducer.specs.Format.{decode}
use Rattle.transducer.specs.Accepted.{FinalsByState}
use Rattle.transducer.specs.Prepare.{Shaped}
use Rattle.transducer.specs.Weight.{Weight, AtMost}
use Rattle.relax.specs.Tentative.{unreached, cost_at, code_cost, least_cost}

-- A table of at most so many states has arrays of as many cells.
abbrev pub small : ℕ
small = 128

-- An array of zeros with a cell for each of n states.
pub record Cleared {A : Type 0} (none : A) (n : ℕ) (xs : List A) : Type 0 where
  pub long : n ≤ length xs
  pub blank : (s : ℕ) → get_or xs s none ≡ none

-- An array for n states: no path is known from those below s.
pub record NoCosts (n s : ℕ) (cs : List Weight) : Type 0 where
  pub long : n ≤ length cs
  pub none : (u : ℕ) → u < s → cost_at cs u ≡ unreached
  pub low : (u : ℕ) → AtMost least_cost (cost_at cs u)
  pub high : (u : ℕ) → AtMost (cost_at cs u) unreached

-- The costs of the empty paths, by the states' final codes.
pub record OwnCosts (bs : List ℕ) (cs : List Weight) : Type 0 where
  pub codes : List ℕ
  pub finals : FinalsByState (decode bs) codes
  pub long : (decode bs).states ≤ length cs
  pub made : (s : ℕ) → s < (decode bs).states → cost_at cs s ≡ code_cost (get_or codes s 0)
  pub low : (s : ℕ) → AtMost least_cost (cost_at cs s)
  pub high : (s : ℕ) → AtMost (cost_at cs s) unreached

-- The shape of accepted bytes, and the costs of their empty paths.
pub record Begun (bs : List ℕ) (shape : Shape) (cs : List Weight) : Type 0 where
  pub shaped : Shaped bs shape
  pub own : OwnCosts bs cs
