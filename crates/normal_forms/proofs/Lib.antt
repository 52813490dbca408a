mod SideSteps
mod SideKept
mod SideValues
mod SideJoined
mod SideFolds
mod SideCleaned
mod SideMade
mod LineRaws
mod LineKeeps
mod LineChanges
mod NormalLists
pub mod MessageSteps
pub mod Leading
pub mod MessageChunks
pub mod LeadLaws
pub mod LeadLines
pub mod AlikeLists
pub mod AlikeForms
mod DecidedParts
mod OneNormal
pub mod OneExplanation
mod ExplainedLaws
pub mod NormalSteps
pub mod SameTexts
pub mod Agreeing
pub mod OneChunk
pub mod MadeParts
