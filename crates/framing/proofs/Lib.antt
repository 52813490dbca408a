pub mod LineLaws
pub mod SizeLines
pub mod TurnTexts
pub mod TooLong
pub mod Spans
pub mod ChunkLaws
pub mod Finding
pub mod Outcomes
pub mod Answered
pub mod NextChunks
pub mod SizeDigits
pub mod SizeLaws
pub mod SizedChunks
mod ThereLaws
mod Codings
mod Digits
pub mod FramingLaws
