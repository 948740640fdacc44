pub mod DateAnswers
pub mod Years
pub mod Months
pub mod Days
pub mod DayNumbers
pub mod DateDigits
pub mod Order
pub mod NextDates
