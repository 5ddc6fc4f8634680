-- What a caller must believe
pub mod Entry
-- What is claimed
pub mod RoundTrip
pub mod Unsigned
