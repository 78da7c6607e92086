pub mod Writing
pub mod Showing
pub mod Lines
pub mod Lengths
pub mod Spanning
