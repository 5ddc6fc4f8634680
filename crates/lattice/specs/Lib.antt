-- What a caller must believe, and what is claimed (`Lattice.ReadsOneToOne`)
pub mod Apply
pub mod Lattice
pub mod ApplyEntry
-- What is claimed
pub mod Application
-- What only inner contracts cite
pub mod Pack
pub mod Applying
