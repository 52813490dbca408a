pub mod Prefixes
pub mod LineBytes
pub mod PieceLaws
pub mod LineLaws
pub mod StartParts
pub mod StatusParts
pub mod Splits
pub mod Walks
pub mod LineParts
pub mod Spans
pub mod Naked
pub mod Ends
pub mod HeadParts
pub mod OneHeads
mod OnePiece
pub mod Sectioning
pub mod CleanTexts
pub mod Grouping
pub mod FaultLaws
pub mod Wholes
pub mod OneAnswer
pub mod NameCounts
pub mod Outcomes
pub mod TrailerCuts
pub mod TrailerFaults
pub mod TrailerAnswers
pub mod Deciding
pub mod EachAnswers
mod Bytes
pub mod FirstPlaces
mod TextLaws
mod Unfolded
pub mod MoreLines
pub mod Offsets
