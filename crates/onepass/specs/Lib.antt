pub mod Walk
pub mod WalkLinear
pub mod Entries
