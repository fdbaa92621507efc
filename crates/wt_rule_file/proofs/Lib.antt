pub mod Scanning
pub mod Giving
pub mod Answers
