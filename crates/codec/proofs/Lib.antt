-- What is copied, and what the answers of the two calls say.
pub mod Copy
pub mod ReadSays
pub mod WriteSays
-- Reading and writing undo each other.
pub mod ReadWrite
-- Tables from before weights had a sign.
pub mod Unsigned
