pub mod FaultNames
pub mod Answers
