-- In reading order.
-- The least cost to come, what costs and sizes are once no arc makes them better, and how sweeps and queue end.
pub mod ToCome
pub mod Settled
pub mod Ended
-- The facts that hold of accepted bytes without validating them.
pub mod LeastKnown
-- The lent cells.
pub mod Written
-- What is answered.
pub mod Answers
-- What an answer says of the paths.
pub mod Claimed
-- A worked row.
pub mod Rows
