-- Places in lists, and lists in which nothing stands twice.
pub mod Member
pub mod Distinct
-- States met one after the other: served, numbered, in the order of the steps.
pub mod Meeting
pub mod Serving
pub mod Numbering
pub mod Order
-- What is built: its finals and arcs, its parts, its paths.
pub mod Finals
pub mod Arcs
pub mod OneArc
pub mod Parts
pub mod Trails
pub mod Accepting
-- When it can be written, and what is left behind where it cannot.
pub mod Built
pub mod Numbered
pub mod LeftBehind
-- The index of stored keys, and the search in it.
pub mod Chain
pub mod Search
-- The walk by keys builds the same.
pub mod TakenSteps
pub mod ExploredKeys
-- What a walk leaves in the buffers.
pub mod Writing
pub mod Recording
pub mod Walking
pub mod PutFinals
pub mod EncodeStored
pub mod MovedArcs
pub mod LentPart
pub mod WalkTold
pub mod Refused
