pub mod Laws
pub mod Entries
pub mod Sums
pub mod Names
pub mod Primaries
pub mod Loops
pub mod Turns
pub mod Lists
mod Alone
pub mod WalkedOver
