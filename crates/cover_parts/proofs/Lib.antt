pub mod Lays
pub mod Rows
pub mod Parts
pub mod Notes
