pub mod Elements
pub mod Levels
pub mod Held
pub mod Steps
pub mod Walk
pub mod Loops
pub mod Placed
