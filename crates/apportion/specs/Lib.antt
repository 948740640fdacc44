pub mod Fault
pub mod Limits
pub mod Numerals
pub mod Request
pub mod Table
