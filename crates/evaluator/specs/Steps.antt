pub mod Scopes
pub mod Passing
pub mod Names
pub mod Values
