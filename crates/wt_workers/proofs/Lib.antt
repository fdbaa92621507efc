pub mod Desks
pub mod Shrinking
pub mod Tasks
pub mod Reports
pub mod RuleLines
