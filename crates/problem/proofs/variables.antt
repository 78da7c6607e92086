pub mod Names
pub mod Sorts
pub mod Both
pub mod Order
