pub mod Keeping
pub mod Ending
