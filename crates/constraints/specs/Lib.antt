pub mod Readers
pub mod Rows
pub mod Shape
