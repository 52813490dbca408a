pub mod Computed
pub mod Judged
pub mod Permitted
