-- What a caller must believe; of a code only `labels_in`
pub mod Text
pub mod Code
pub mod Answer
pub mod Entry
-- What only inner contracts cite
pub mod PathsCounted
