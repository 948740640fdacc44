pub mod Adjustments
pub mod Balance
pub mod DayAnswers
pub mod DayLoads
pub mod DrawRefusals
pub mod SpanLaws
pub mod SpanSums
pub mod SumLimits
