pub mod Fields
pub mod Params
pub mod Parts
pub mod Lines
pub mod Judged
pub mod Wished
