pub mod Stretching
pub mod Between
pub mod Counting
