pub mod Lines
pub mod Scripts
pub mod Causes
pub mod Words
pub mod Laws
pub mod tools
