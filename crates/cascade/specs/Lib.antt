-- What a caller must believe: the pairs, how origins are traced, what the two calls answer, and what is claimed
pub mod Pairs
pub mod Tracing
pub mod Entry
pub mod Cascade
pub mod Three
