pub mod Answers
pub mod Limits
pub mod ReadingType
pub mod Refusal
pub mod RefusalNumbers
pub mod Rounding
