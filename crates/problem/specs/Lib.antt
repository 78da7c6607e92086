pub mod Problem
pub mod Missing
pub mod Variables
