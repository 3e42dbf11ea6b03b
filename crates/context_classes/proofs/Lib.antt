pub mod Smallness
pub mod Cutting
