pub mod Tables
pub mod Origins
pub mod Referring
