pub mod Rational
pub mod Integers
mod Scales
mod Tenths
pub mod Fitting
pub mod Numbers
pub mod Rounding
pub mod Ranges
pub mod Operations
pub mod Gathering
pub mod Reading
pub mod Powers
pub mod Writing
pub mod ReadBack
pub mod Cases
