-- How cases are computed
pub mod Computing
-- Each case holds by the definitions
pub mod AllHold
-- What each call promises is what the definitions give
pub mod Promised
