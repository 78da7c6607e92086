pub mod Generated
pub mod Problems
