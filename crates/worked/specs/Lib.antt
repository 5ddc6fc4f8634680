-- What is claimed: tables by their bytes, and the rows
pub mod Tables
pub mod Rows
