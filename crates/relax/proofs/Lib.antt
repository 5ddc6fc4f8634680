-- In reading order.
-- Costs and numbers of arcs by state: which come before others, how large they are.
pub mod Nearer
pub mod Packed
pub mod Bounds
-- What is known first, and one arc relaxed.
pub mod EmptyPaths
pub mod Totals
pub mod Relaxed
