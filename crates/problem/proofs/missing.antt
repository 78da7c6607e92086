pub mod Elements
pub mod Names
