pub mod Few
pub mod Entries
pub mod Readers
pub mod Lists
