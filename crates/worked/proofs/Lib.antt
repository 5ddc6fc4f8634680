-- Each row holds by the definitions and is what its call promises
pub mod RowsHold
