-- What a caller must believe
pub mod Bounds
pub mod Refusal
