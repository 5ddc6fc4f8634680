-- What a caller must believe
pub mod Reach
-- What only inner contracts cite
pub mod Counted
pub mod Marks
pub mod Cell
pub mod Stack
pub mod Index
