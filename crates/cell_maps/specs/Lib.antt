pub mod Cells
pub mod Laid
pub mod Runs
