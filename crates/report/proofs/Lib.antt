-- A path told arc by arc; what is answered of it.
pub mod Telling
pub mod PathTold
