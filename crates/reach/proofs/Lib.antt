-- What is known of accepted bytes, and of numbers with a property.
pub mod Sized
pub mod Ends
pub mod Counted
-- What accessible and coaccessible mean for paths.
pub mod Reach
-- Marks that spread along arcs: one arc, one sweep, chains of arcs, a stack of states; then the marks that are closed, from the start and from the finals.
pub mod Spreading
pub mod Sweeping
pub mod Cell
pub mod Chains
pub mod Stacked
pub mod Closure
pub mod FinalMarks
-- The arcs by target.
pub mod ByTarget
