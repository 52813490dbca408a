pub mod Table
pub mod Parts
pub mod Values
pub mod Views
pub mod tools
