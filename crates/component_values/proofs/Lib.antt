mod Below
pub mod FirstLacks
pub mod RowLaws
pub mod CleanLaws
mod DerivedRows
mod DerivedValues
mod Encoded
mod Sequences
mod Unread
mod FieldAnswers
pub mod LineLaws
pub mod SameLists
pub mod StrictEnds
pub mod SameReadings
