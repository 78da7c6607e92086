pub mod Assigned
pub mod Enclosed
pub mod Telling
