-- What stands in front of the arcs, and a table that reads back
pub mod Written
-- Inverted: what can be written, and its paths
pub mod Inverted
pub mod InvertedWritten
-- Restricted: what can be written, its paths, and the loop over the arcs
pub mod Restricted
pub mod RestrictedWritten
-- Reversed: the arcs by target, what can be written, the records, its paths and the least cost from a state
pub mod ReversedOrder
pub mod ReversedGood
pub mod ReversedWritten
pub mod ReversedPaths
