pub mod Tables
pub mod Cycle
pub mod Alone
pub mod WalkOver
pub mod Ground
pub mod Steps
pub mod Context
