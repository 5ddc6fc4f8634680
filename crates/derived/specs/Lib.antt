-- What is made of a transducer
pub mod Inverted
pub mod Reversed
pub mod Restricted
-- What its paths are
pub mod Claim
-- What only inner contracts cite
pub mod Put
