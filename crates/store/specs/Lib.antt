pub mod Few
pub mod Element
pub mod Key
pub mod Table
pub mod Entries
pub mod Packed
