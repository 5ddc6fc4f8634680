-- The steps of a composed state, one by one: their kinds, labels, targets and weights.
pub mod Moves
pub mod Labels
pub mod Within
-- States compared and packed.
pub mod SameState
pub mod Packing
-- The same steps as runs, and the next run from a left arc on.
pub mod RunSteps
pub mod Reading
-- What the code relies on: the search for a run, and the look-up of right arcs.
pub mod RunCode
pub mod Only
pub mod Links
