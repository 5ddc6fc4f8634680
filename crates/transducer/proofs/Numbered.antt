-- Passes on the laws of refusals to the crates above.
pub use Rattle.bounds.proofs.Numbered.{number_some}
