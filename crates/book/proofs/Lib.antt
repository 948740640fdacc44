pub mod BookDays
pub mod Calls
pub mod DegreeDays
pub mod Loads
pub mod Moments
pub mod Opening
pub mod Questions
pub mod Runs
