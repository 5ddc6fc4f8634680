-- What is claimed
pub mod PrintedText
pub mod Printed
