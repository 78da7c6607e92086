pub mod Few
pub mod ReadAs
