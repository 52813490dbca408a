pub mod Parts
pub mod Params
pub mod Requests
pub mod Values
