pub mod Views
pub mod Allowed
pub mod PartViews
pub mod Sizes
pub mod FromViews
