pub mod Command
pub mod Faults
pub mod Laws
pub mod tools
