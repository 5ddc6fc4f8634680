-- What a caller must believe
pub mod Steps
-- What only inner contracts cite: states as numbers, right arcs by look-up, steps in runs
pub mod Packing
pub mod Lookup
pub mod Runs
