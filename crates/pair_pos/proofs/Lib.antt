pub mod Checked
pub mod Sizes
