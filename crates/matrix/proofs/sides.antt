pub mod EndLaws
pub mod Bounds
pub mod RowLaws
