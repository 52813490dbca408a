mod WordLaws
mod NumberLaws
mod FormLaws
mod WalkLaws
mod LoopLaws
mod WholeLaws
pub mod RecordingLaws
mod NextLaws
mod ReadLaws
mod ViewLaws
mod LeftLaws
mod AllowedLaws
pub mod RestLaws
mod SizeLaws
mod StaysLaws
mod ReaderLaws
mod FoundLaws
mod HeldLaws
mod PieceLaws
pub mod OneChain
mod Stopping
pub mod OrderFaults
mod AheadLaws
mod HeldOrder
mod OrderAnswers
