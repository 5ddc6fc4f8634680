-- The four texts, the things that are listed, and the claim for things of any kind
pub mod Forms
pub mod Things
pub mod PrintedText
-- The pairs that are listed, and the claim
pub mod Pairs
pub mod PrintedClaim
-- The least length of the buffer for a text, and that no shorter one would do
pub mod LeastRoom
pub mod Longest
