pub mod Lists
pub mod Marks
pub mod Steps
pub mod Listings
pub mod Joined
