pub mod Reach
pub mod Tables
