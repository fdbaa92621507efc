pub mod Fronts
pub mod Names
pub mod Sound
pub mod Spelling
pub mod Stored
pub mod Tokens
pub mod Words
