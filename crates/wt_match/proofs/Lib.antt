pub mod Laid
pub mod Matches
pub mod Asked
pub mod Deciding
