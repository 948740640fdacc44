pub mod Book
pub mod Case
pub mod Days
pub mod Law
pub mod Opening
pub mod Replies
