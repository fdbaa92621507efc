pub mod Orders
pub mod Bits
pub mod CoreLaws
pub mod Gaining
pub mod Searching
