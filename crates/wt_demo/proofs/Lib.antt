mod Counting
pub mod Statuses
pub mod OneDemo
