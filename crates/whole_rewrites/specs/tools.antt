pub mod Requests
pub mod Judged
pub mod Kinds
pub mod Retargeted
pub mod HeadLines
pub mod Fields
