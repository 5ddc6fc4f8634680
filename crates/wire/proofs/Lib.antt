-- Tests.
pub mod Bool
-- Lists made place by place.
pub mod Places
-- Numbers as bytes.
pub mod Low
-- Signed numbers: arithmetic, and their bytes.
pub mod Ints
pub mod Signed
