pub mod Checks
pub mod FormLaws
pub mod StepLaws
pub mod LongLaws
pub mod TextLaws
pub mod EachLaws
pub mod LeftLaws
