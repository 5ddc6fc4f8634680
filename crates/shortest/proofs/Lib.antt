-- In reading order.
-- Paths: which is better, and the shortest one.
pub mod Best
pub mod Cheapest
pub mod FewPaths
-- An arc that gives its source's cost and size, and the path along such arcs.
pub mod Tight
pub mod Followed
-- The path put into its buffer, and what is answered.
pub mod Along
pub mod Answers
-- What an answer says of the accepting paths.
pub mod Claimed
-- What it has to do with the costs to come.
pub mod Agreed
