pub mod Statuses
pub mod RuleBags
pub mod RulesRead
