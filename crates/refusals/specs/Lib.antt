pub mod Laws
pub mod Refusal
pub mod Texts
