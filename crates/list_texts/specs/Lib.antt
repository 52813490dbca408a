pub mod Lists
pub mod Causes
pub mod Words
pub mod Laws
pub mod tools
