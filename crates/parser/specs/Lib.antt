pub mod Readers
pub mod Parsed
