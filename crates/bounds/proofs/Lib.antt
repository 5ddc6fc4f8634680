-- The numbers of refusals.
pub mod Numbered
-- Worked rows.
pub mod Rows
