pub mod Judged
pub mod Views
pub mod Added
pub mod GatewayReads
pub mod KeyFaults
pub mod SectionReads
pub mod PolicyReads
pub mod Explained
