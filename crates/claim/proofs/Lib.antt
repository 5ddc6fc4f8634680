-- Paths and other things that stand one to one: their number, the k-th, the least cost, and two runs of bytes that agree on them.
pub mod Counting
pub mod Listing
pub mod Least
pub mod Agreeing
-- The chain of calls.
pub mod Chain
pub mod ChainCounted
-- The claim, and the answers of the one call.
pub mod Claimed
pub mod Plain
pub mod ReadingsSays
-- For instances of claims.
pub mod OneArc
