pub mod Items
pub mod Scoping
pub mod Views
