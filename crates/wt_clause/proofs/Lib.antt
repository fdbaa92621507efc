pub mod Clauses
pub mod Commas
pub mod Walks
pub mod Finishing
pub mod Joined
