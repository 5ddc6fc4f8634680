-- The law of cells: the parts of a cell are those packed. Assumes nothing.
use mathlib.Core.Path.{◌≡◌}
use Prim.Native.Nat.{ℕ, ◌<◌}
use native.Mathlib.Omega.{arith}
use Rattle.reach.specs.Cell.{links, cell_of, state_of, link_of}

pub record Parts (state link cell : ℕ) : Type 0 where
  pub state_is : state_of cell ≡ state
  pub link_is : link_of cell ≡ link

pub parts_cell : (s k : ℕ) → k < links → Parts s k (cell_of s k)
unfolding cell_of state_of link_of
parts_cell s k h = record { state_is = omega arith; link_is = omega arith }

-- No state with a link is 0, which stands for none.
pub cell_some : (s k : ℕ) → cell_of s k ≡ 0 → k ≡ 0
unfolding cell_of
cell_some s k e = omega arith

pub link_below : (c : ℕ) → link_of c < links
unfolding link_of
link_below c = omega arith
