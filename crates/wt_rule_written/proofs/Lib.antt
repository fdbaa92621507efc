pub mod Decimals
pub mod Fine
pub mod Canon
pub mod Smallness
pub mod Stated
pub mod FilesRead
pub mod Discovered
