-- In reading order.
-- What the bytes tell.
pub mod Opened
-- A sweep over the arcs, and one by states; where the arcs of a state begin.
pub mod InPlace
pub mod ByStates
pub mod FirstArcs
-- A queue, and what relaxing by it leaves.
pub mod Waiting
pub mod Draining
