-- Marks of states in an array.
pub mod MarksInPlace
