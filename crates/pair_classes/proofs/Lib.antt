pub mod Siding
pub mod Kept
pub mod Cutting
