pub mod Months
pub mod ObservationLimits
pub mod SeasonTerms
