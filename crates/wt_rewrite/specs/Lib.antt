pub mod Runs
pub mod Books
pub mod Operands
pub mod Search
pub mod Going
