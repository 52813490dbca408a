mod TargetPermitTests
mod TargetPermitAuthority
mod TargetPermitRequests
mod TargetPermitHosts
mod TargetPermitQueries
pub mod TargetPermits
pub mod FieldPermits
pub mod WholePermits
mod Targeted
pub mod TargetKinds
mod TargetOffers
pub mod ContentLists
pub mod ContentKinds
pub mod ContentSame
pub mod ContentSteps
pub mod ContentMade
pub mod FieldValues
pub mod FieldParts
pub mod FieldSound
pub mod FieldKinds
pub mod FieldTexts
pub mod WholeKinds
pub mod WholeLaws
