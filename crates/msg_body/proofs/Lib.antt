pub mod FoundLines
mod LineCounts
mod ValueWalk
pub mod ValueLaws
pub mod LineLists
mod Decided
mod Joins
mod Lower
mod OneBodies
pub mod OneMessages
mod OtherHeads
mod Outcomes
mod Readings
pub mod EachAnswers
pub mod WholeTexts
