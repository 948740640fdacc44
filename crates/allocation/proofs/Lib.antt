pub mod LoadLaws
pub mod RowShares
pub mod Totals
pub mod Products
pub mod Turns
pub mod DivisionByReciprocal
