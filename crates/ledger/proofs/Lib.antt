pub mod Days
pub mod Entries
pub mod Loads
pub mod Marks
pub mod Openings
pub mod PlaceCounts
pub mod ReadingRefusals
pub mod Tables
