pub mod Lexemes
pub mod Readings
pub mod Sentences
