pub mod Bags
pub mod Choices
