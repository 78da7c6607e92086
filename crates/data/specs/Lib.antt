pub mod Stores
pub mod Layouts
pub mod Running
pub mod Taking
pub mod Carrying
pub mod Portions
pub mod Sections
pub mod Reading
