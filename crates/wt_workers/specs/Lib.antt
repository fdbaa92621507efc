pub mod Desks
pub mod Tasks
pub mod Shrinking
pub mod Reports
pub mod Renumbering
pub mod LineOf
