pub mod Spans
pub mod tools
