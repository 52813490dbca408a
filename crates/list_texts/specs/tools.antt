pub mod FieldWalk
pub mod FieldTexts
pub mod Judged
