pub mod Formats
pub mod Puts
