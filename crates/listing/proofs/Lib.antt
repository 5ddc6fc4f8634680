-- Numbers in decimal, and texts written one behind the other.
pub mod Decimal
pub mod Digits
pub mod Wrote
-- How long the parts of a listing are, and the listing from the paths that are walked to.
pub mod Short
pub mod NthLine
-- A code's labels, and the text from what composing and applying answer.
pub mod Loading
pub mod Steps
