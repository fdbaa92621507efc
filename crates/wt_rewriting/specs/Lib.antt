pub mod Files
pub mod Rewriting
pub mod Checking
pub mod Making
