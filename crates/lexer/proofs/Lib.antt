pub mod Marks
mod Runs
pub mod Same
mod Words
mod Powers
mod Tokens
mod Sizes
mod Stream
pub mod Calls
pub mod Strings
pub mod Literals
mod Cases
