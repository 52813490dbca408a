mod ListParts
mod SameLists
mod RawValueKinds
mod LineKinds
mod SameMessages
pub mod PermittedSteps
pub mod Lengths
pub mod Slices
pub mod Runs
pub mod Cores
pub mod Sound
pub mod Parts
pub mod Changes
pub mod Results
pub mod SoundChanges
pub mod StartTexts
pub mod Texts
pub mod Applied
pub mod Sizes
pub mod Passing
pub mod Deciding
pub mod Permitting
pub mod StepKinds
