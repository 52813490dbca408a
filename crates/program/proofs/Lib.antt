pub mod CommandLaws
pub mod IntakeLaws
pub mod Layers
pub mod OneReport
pub mod TextInputs
pub mod Reports
pub mod SomeReport
pub mod Sources
mod AskedFiles
mod AuditLines
mod AuditedInputs
mod AuditedTexts
mod FaultCounts
mod GatewayLaws
mod Meanings
mod NegotiatedInputs
mod OneLines
mod RestFiles
mod ReturnedLists
mod RewrittenInputs
mod Sampled
mod ServableStreams
mod SignedInputs
mod StreamNames
mod StreamRecords
mod StreamRuns
mod TurnedTexts
mod VerdictLines
mod WrittenOutcomes
mod Explanations
