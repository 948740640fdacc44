pub mod Ledger
pub mod Limits
pub mod Opening
pub mod Places
pub mod Readings
