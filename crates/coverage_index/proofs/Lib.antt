pub mod Lists
pub mod Ranges
pub mod Formats
