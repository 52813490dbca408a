pub mod Kinds
pub mod Reads
pub mod Rows
pub mod Spans
