pub mod HeldStreams
pub mod Held
pub mod Judged
pub mod Walked
