pub mod Days
pub mod Numerals
pub mod Requests
