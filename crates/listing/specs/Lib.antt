pub mod Shown
pub mod Kinds
pub mod Bare
pub mod Sheet
pub mod Spans
