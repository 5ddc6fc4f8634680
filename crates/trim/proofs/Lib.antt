-- The arcs that pass a test
pub mod Passing
-- Which states and arcs are useful
pub mod Useful
-- What trimming keeps, one by one
pub mod Kept
-- The trimmed transducer: its paths, that it can be written, what it keeps, and that trimming it again changes nothing
pub mod Trimmed
pub mod TrimmedGood
pub mod TrimmedKeeps
pub mod TrimmedTwice
-- The loops: new numbers, and what is kept written one behind the other
pub mod Running
pub mod KeptWritten
-- What the calls answer
pub mod TrimSays
