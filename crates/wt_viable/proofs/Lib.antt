pub mod Levels
pub mod Begins
pub mod BeginsParts
pub mod BeginsConditions
pub mod BeginsQueries
pub mod BeginsStatements
