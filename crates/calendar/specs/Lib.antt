pub mod Gregorian
pub mod Digits
pub mod Date
