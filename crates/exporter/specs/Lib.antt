pub mod Texts
pub mod Exports
