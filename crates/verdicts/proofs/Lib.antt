pub mod RuleOrder
pub mod Digesting
mod OfSignature
mod Uncovered
pub mod PolicyFailures
pub mod Judging
pub mod Places
pub mod RightlySigned
pub mod AlikeMessages
pub mod OneTags
pub mod KnownTagLaws
pub mod AskedLabels
pub mod WithoutPolicy
pub mod Windows
