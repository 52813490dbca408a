mod Lowered
mod FirstBytes
pub mod Filtered
pub mod ByName
mod NameOrder
mod NamedPart
mod NamedLists
