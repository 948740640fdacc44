pub mod Calls
pub mod FigureLaws
pub mod Figures
pub mod History
pub mod ReadingLaws
pub mod Readings
pub mod WorkedDays
pub mod WorkedReadings
