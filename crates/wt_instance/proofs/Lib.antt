pub mod NamedRows
mod Sides
pub mod Columns
mod Meetings
pub mod SideBags
