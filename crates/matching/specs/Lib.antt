pub mod Fitting
pub mod Formats
pub mod Rows
