pub mod Covers
mod KeyEntryLaws
pub mod Names
mod ValidLaws
pub mod StandardLaws
pub mod ValidInside
pub mod ChosenLaws
