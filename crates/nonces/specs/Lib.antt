pub mod Books
pub mod Buckets
pub mod Laws
pub mod tools
