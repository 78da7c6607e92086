pub mod Adding
pub mod Looping
pub mod Listing
