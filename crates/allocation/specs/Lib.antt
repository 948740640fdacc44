pub mod Loads
pub mod SharingLimits
pub mod Sharing
pub mod ShareLaws
pub mod Row
pub mod ReadingDay
pub mod EstimatedPoint
pub mod Divisor
