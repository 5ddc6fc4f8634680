-- What a caller must believe, but for `Tells` and `LabelsPut`
pub mod Answer
pub mod Tell
