pub mod Smallness
pub mod Asking
