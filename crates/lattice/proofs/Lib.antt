-- Packing a lattice state
pub mod Pack
-- Lattice states and their steps, and the trails of steps that stand for paths of the transducer
pub mod SameState
pub mod AppliedSteps
pub mod AppliedTrails
-- The lattice before trimming, and the lattice: it can be written, its states are accessible, its paths are those that fit the string
pub mod LatticeGood
pub mod AppliedNumbered
pub mod BuiltAccessible
pub mod LatticeLaw
pub mod Plain
-- The walk by packed states: it finds the lattice before trimming
pub mod KeyParts
pub mod FoundBuilt
-- The loops: the test of the string, the arcs of a state, the finals, the origins
pub mod Symbols
pub mod ServedArcs
pub mod Serving
pub mod KeyFinals
pub mod Tracing
-- What the calls leave and answer
pub mod Closing
pub mod ApplySays
pub mod AppliedWritten
pub mod Called
