pub mod Asking
pub mod Matched
