pub mod Levels
pub mod Numbers
pub mod ReadingBack
pub mod Spelling
