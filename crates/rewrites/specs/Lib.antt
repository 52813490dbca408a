pub mod Steps
pub mod Walks
pub mod Permitted
pub mod Conditions
pub mod Decisions
pub mod Laws
pub mod Words
pub mod tools
