pub mod KeyEntries
pub mod Lists
