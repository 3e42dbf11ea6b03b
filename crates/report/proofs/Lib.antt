pub mod Spelling
pub mod Whole
