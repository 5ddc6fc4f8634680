-- What a caller must believe
pub mod Weight
pub mod Format
pub mod Encode
pub mod Path
pub mod Each
pub mod Entry
pub mod Answer
-- What only inner contracts cite
pub mod Check
pub mod Accepted
pub mod Prepare
