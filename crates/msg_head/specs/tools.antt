pub mod Texts
pub mod Prefixes
pub mod Sections
pub mod Judged
pub mod TrailerJudged
pub mod Walks
