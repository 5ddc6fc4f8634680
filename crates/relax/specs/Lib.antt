-- What a caller must believe
pub mod Size
-- What only inner contracts cite
pub mod Tentative
pub mod Begun
