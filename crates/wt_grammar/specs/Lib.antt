pub mod Kinds
pub mod Refusals
pub mod Reading
pub mod Statements
