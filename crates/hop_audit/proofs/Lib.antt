mod FirstOf
mod Equal
pub mod Fates
mod Permitted
mod Reports
pub mod SameVerdicts
pub mod StepLists
mod WalkSteps
pub mod FirstFaults
mod ItemTexts
mod ReportLines
mod Sizes
mod AuditSteps
mod AuditAnswers
pub mod OneReport
pub mod SomeReport
pub mod OneBases
mod Comparing
mod JudgedHops
mod CarriedTags
mod LineTexts
