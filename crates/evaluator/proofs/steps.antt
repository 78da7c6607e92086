pub mod Scopes
pub mod Passed
pub mod Numbers
pub mod Answers
pub mod Runs
