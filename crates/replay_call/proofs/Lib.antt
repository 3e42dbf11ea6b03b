pub mod Writing
pub mod Reach
