pub mod Preferring
pub mod Signing
pub mod Judged
