pub mod Cells
pub mod Kept
