pub mod Nesting
pub mod Sizes
pub mod Views
