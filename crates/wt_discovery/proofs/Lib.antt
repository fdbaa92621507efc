pub mod RuleLines
pub mod Alone
