pub mod Clauses
pub mod Bounded
pub mod Narrowing
pub mod Counting
pub mod Fitting
