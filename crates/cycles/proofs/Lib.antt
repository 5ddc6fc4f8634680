-- Costs of paths and the labels that they write, then cycles on them: left out, or below zero.
pub mod Costs
pub mod Labels
pub mod Cycles
-- Refusal 19 in words, and that there is no least cost where it is given.
pub mod NegativeCycles
pub mod NoLeast
