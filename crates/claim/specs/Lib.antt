-- What a caller must believe, and what is claimed
pub mod Kind
pub mod Listed
pub mod Agree
pub mod Claim
pub mod Entry
