-- What a caller must believe; of the entry neither `cost_or_none` nor `Copied`
pub mod Distance
pub mod Entry
-- What is claimed
pub mod Claim
-- What only inner contracts cite
pub mod Ended
