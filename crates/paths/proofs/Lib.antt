-- Paths in path order, how many there are, and when they are infinitely many.
pub mod Order
pub mod Listed
pub mod GoesOn
pub mod Endless
pub mod Tally
pub mod Sweep
pub mod NthPath
pub mod Nth
-- What is known of accepted bytes, and arrays of marks and of counts.
pub mod Ready
pub mod Shut
pub mod StoredCounts
-- Counts where states are topologically sorted.
pub mod TopSorted
-- Counts where they are not: open arcs and the stack, sums over done arcs, marks and counts on their way, one state counted, and all from first to last.
pub mod Counting
pub mod PartialSums
pub mod Stops
pub mod CountsInPlace
pub mod Releasing
pub mod Rested
pub mod CountSays
-- The walk along the k-th path, and its telling.
pub mod Walk
pub mod Steps
pub mod NthSays
-- What the answers of the calls say.
pub mod Called
