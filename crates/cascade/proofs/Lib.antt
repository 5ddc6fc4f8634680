-- Paths of a cascade are the pairs, and which pairs these are.
pub mod Pairs
-- Origins traced to the left transducer.
pub mod Tracing
-- The claim, and the answers of the two calls.
pub mod Cascaded
pub mod CascadeSays
pub mod ReadingsSays
pub mod SameReadings
-- Three transducers.
pub mod Three
-- The claims are not empty.
pub mod Instance
