pub mod ChunkWalk
pub mod Turns
pub mod JudgedChunks
pub mod Read
pub mod Written
pub mod NamedLines
pub mod Digits
pub mod Judged
