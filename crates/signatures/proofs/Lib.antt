mod Lines
pub mod Readings
pub mod Numbers
pub mod InRange
pub mod Reading
pub mod SameFields
mod Answering
mod Digesting
mod ReadLabels
