pub mod Answers
pub mod Listings
pub mod Exports
pub mod Entries
