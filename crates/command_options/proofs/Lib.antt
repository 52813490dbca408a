pub mod FirstFound
pub mod Moments
pub mod OptionLists
