pub mod Declared
pub mod Kept
pub mod Grounds
pub mod Laws
pub mod Worlds
