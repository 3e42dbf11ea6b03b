pub mod Parts
pub mod Readying
