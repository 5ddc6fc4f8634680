-- What a caller must believe
pub mod Count
pub mod Answer
pub mod Entry
-- What is claimed of
pub mod Calls
-- What only inner contracts cite
pub mod Tally
pub mod Sweep
pub mod TopSorted
pub mod Counting
