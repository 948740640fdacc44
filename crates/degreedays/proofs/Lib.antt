pub mod DaysOfYear
pub mod Faults
