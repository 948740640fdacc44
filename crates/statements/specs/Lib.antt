pub mod Draws
pub mod Laws
pub mod Limits
pub mod Lists
pub mod Spans
pub mod Sums
