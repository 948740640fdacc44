pub mod Limits
pub mod Entries
pub mod Meaning
pub mod Cap
pub mod FallBack
