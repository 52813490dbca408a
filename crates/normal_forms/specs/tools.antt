pub mod Pieces
pub mod Lines
pub mod Sides
pub mod Judged
pub mod Parts
pub mod Explained
