pub mod Draws
pub mod Scripts
pub mod Requests
pub mod Chains
pub mod Summary
pub mod Laws
pub mod tools
