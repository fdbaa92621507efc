pub mod Instances
pub mod Rows
pub mod Meeting
pub mod SideBags
