pub mod Feed
pub mod Answered
pub mod Held
pub mod Kept
pub mod Reading
