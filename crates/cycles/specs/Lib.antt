-- What a caller must believe, and what 19 is in words (`NegativeCycleFrom`, `SomeNegativeCycle`)
pub mod Costs
pub mod Cycles
