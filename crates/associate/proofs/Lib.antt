-- Paths of two compositions are triples, in either bracket.
pub mod Triples
-- The claim.
pub mod Associated
-- It is not empty.
pub mod Instance
