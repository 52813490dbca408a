mod Fields
mod Causes
mod Asking
mod LineTexts
pub mod Inserting
pub mod DigestBytes
mod AddedLines
mod Lengthened
pub mod Making
mod Made
mod TakenMembers
mod SignatureLines
mod MemberValues
mod TagLengths
mod Verifiable
mod Filling
mod Wishing
mod WishSpecs
mod Wanting
pub mod OneSigned
pub mod SomeSigned
mod Mentions
