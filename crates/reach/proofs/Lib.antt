pub mod Enclosing
pub mod Reaching
