pub mod Asking
pub mod Formats
