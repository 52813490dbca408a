mod Given
mod Runs
pub mod TargetParts
pub mod AuthorityParts
pub mod Decided
pub mod StartTargets
pub mod Visible
mod EncodingLaws
pub mod ValueLaws
pub mod Schemes
pub mod AuthorityValues
mod ParamLaws
mod SameTexts
mod ComparedLaws
mod Drawn
pub mod SameParts
