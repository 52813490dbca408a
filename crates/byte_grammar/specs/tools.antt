pub mod Languages
pub mod Walks
pub mod Determined
pub mod ByBytes
pub mod Held
pub mod CountedWalk
pub mod CountedTexts
