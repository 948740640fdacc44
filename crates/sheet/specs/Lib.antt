pub mod Account
pub mod Coverage
pub mod DayWeights
pub mod HeldReadings
pub mod RowsByPlaces
pub mod Scaling
pub mod Sheet
pub mod SheetOfHistory
