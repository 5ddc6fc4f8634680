-- What a caller must believe
pub mod Passing
pub mod Trim
pub mod TrimEntry
-- What only inner contracts cite
pub mod Parts
