pub mod Proper
mod Words
mod Filling
pub mod Calls
