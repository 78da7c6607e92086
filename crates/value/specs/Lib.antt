pub mod Rational
pub mod Decimal
pub mod Number
pub mod Literal
pub mod Printed
pub mod Gathering
pub mod Parts
