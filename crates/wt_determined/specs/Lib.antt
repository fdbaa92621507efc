pub mod Pieces
pub mod Alone
pub mod Linked
