pub mod Lists
pub mod Agreeing
pub mod UniqueFacts
pub mod NullFacts
pub mod ReferenceFacts
pub mod KnownFacts
