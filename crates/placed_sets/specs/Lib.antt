pub mod Sorts
pub mod Kept
