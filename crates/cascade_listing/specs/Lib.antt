-- What the call answers, and what is claimed of the text
pub mod Entry
pub mod PrintedCascade
