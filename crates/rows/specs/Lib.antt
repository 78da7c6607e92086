pub mod Counts
pub mod Slots
pub mod Bounds
pub mod Problems
pub mod Read
pub mod Held
