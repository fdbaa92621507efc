pub mod Changes
pub mod Ends
pub mod ToIn
pub mod ToOne
pub mod Writing
