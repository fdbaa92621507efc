pub mod SetLists
pub mod Cores
