-- Weights: sums, order, range and codes.
pub mod Weights
pub mod Magnitudes
-- Records one after the other, and where the head says that they stand.
pub mod Records
pub mod Laid
-- What the tests 3 and 5 to 8 say of a transducer, and that the code's one pass makes them.
pub mod Labels
pub mod Good
pub mod Checked
pub mod Fields
pub mod FastCheck
-- Acceptance of bytes: which refusal it is, what no refusal gives, and what it is to fit a symbol.
pub mod Accept
pub mod Most
pub mod Offsets
pub mod Headed
pub mod Fits
pub mod Tested
-- Records written, and read back.
pub mod Encode
pub mod WriteBack
pub mod RoundTrip
-- What answers are made of.
pub mod Numbered
pub mod Answers
-- Arcs and finals by state: the two indexes, and what each arc of a state gives.
pub mod Index
pub mod FirstArcs
pub mod Finals
pub mod Members
pub mod Each
pub mod Ranges
pub mod AcceptedAt
pub mod Named
pub mod Leaving
-- Paths, their costs, and cycles on them.
pub mod Paths
pub mod FitPaths
pub mod Runs
pub mod Cycles
-- Worked rows.
pub mod Rows
