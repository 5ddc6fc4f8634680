-- What only inner contracts cite
pub mod Swept
pub mod Queue
