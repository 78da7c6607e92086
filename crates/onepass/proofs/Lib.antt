pub mod Steps
pub mod Balanced
pub mod Walked
pub mod WalkedLinear
pub mod WalkedDomain
