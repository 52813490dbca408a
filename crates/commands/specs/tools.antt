pub mod Prepared
pub mod Rewritten
pub mod Verdicts
pub mod Signed
pub mod Explained
