pub mod Marks
pub mod Numbers
pub mod Text
pub mod View
pub mod Inner
