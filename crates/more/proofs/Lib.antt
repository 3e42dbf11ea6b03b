pub mod Wider
pub mod Fields
pub mod Cells
pub mod Formats
pub mod Both
pub mod Promises
