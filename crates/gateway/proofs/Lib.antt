pub mod Forwarding
pub mod Signable
mod AddedRecords
mod WrittenParts
mod ServedSoFar
mod ItemsRead
mod GoingOn
mod ServedEnds
mod ServedItems
pub mod Accepting
pub mod Nonces
pub mod Remembering
pub mod ReadMessages
pub mod TakenSteps
pub mod SignedValues
pub mod PassedLaws
pub mod RecordLaws
pub mod RecordRanges
pub mod SomeRecords
pub mod Stepping
pub mod Counting
pub mod SameBooks
pub mod OneStreams
