-- What only inner contracts cite
pub mod Capped
pub mod Marks
