pub mod Connectives
pub mod Inserting
pub mod Lists
pub mod NullLaws
pub mod Numbering
pub mod TruthLaws
pub mod Using
