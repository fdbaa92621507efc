pub mod Lists
pub mod Gained
