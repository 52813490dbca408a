pub mod After
pub mod Wrong
