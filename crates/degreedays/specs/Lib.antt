pub mod Word
pub mod Reckoning
pub mod Half
