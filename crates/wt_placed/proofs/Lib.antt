pub mod Sorted
pub mod Again
