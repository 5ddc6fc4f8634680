-- What a caller must believe
pub mod Shortest
pub mod Entry
-- What is claimed
pub mod Claim
pub mod Agree
-- What only inner contracts cite
pub mod Tight
