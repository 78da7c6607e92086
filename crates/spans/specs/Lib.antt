pub mod Spans
pub mod Encloses
pub mod Told
