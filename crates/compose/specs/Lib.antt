-- What a caller must believe
pub mod Compose
pub mod Entry
-- What is claimed; a caller must believe `TwoPaths` too
pub mod Claim
pub mod Composition
-- What only inner contracts cite: the walk by keys, what is left of a run, and what is written when the walk is done
pub mod Walk
pub mod Taking
pub mod Finished
