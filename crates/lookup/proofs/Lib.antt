-- What the calls answer, and what it means
pub mod CountString
pub mod LookupSays
pub mod Meant
