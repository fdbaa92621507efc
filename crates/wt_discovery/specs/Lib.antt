pub mod Discovering
