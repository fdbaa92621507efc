pub mod Listing
pub mod NodeLaws
pub mod Searching
pub mod Choosing
pub mod Going
pub mod Running
