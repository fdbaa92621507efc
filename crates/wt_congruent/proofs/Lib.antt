pub mod Begins
pub mod Pairing
pub mod Shares
pub mod Sizes
pub mod Tells
