mod Bytes
pub mod DigestLaws
pub mod SameDicts
mod Judged
