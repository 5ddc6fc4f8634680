-- What a caller must believe; of the walk only `all_origins`
pub mod Explore
pub mod Walk
-- What only inner contracts cite
pub mod Chain
