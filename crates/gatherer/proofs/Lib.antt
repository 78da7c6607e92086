pub mod Rows
pub mod Forward
pub mod Numbers
pub mod Endings
pub mod Variables
pub mod Forms
pub mod Loops
