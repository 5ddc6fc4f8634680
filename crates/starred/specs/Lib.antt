-- What is claimed: calls and what the definitions answer, the cases, what the calls promise
pub mod Answer
pub mod Cases
pub mod Promise
