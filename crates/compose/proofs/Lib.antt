-- Trails of steps and pairs of paths stand one to one.
pub mod Trail
pub mod Leads
pub mod Pairing
pub mod Pairs
-- The same of the composition's accepting paths, by their arcs' origins; least sums.
pub mod Origins
pub mod MetPaths
pub mod Numbered
pub mod Written
pub mod LeastSums
pub mod Plain
pub mod Claimed
-- The walk by keys walks the composition, and its code walks by keys.
pub mod Explored
pub mod WalkCode
-- What is written, and the answers.
pub mod KeyFinals
pub mod ComposeSays
-- What a call leaves behind.
pub mod Called
