pub mod Filling
pub mod Turns
pub mod Offsets
