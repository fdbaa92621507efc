pub mod Blocks
pub mod Counting
pub mod Printed
pub mod Parts
