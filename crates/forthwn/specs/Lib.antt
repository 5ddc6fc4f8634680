-- What a caller must believe
pub mod Answer
