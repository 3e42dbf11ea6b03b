pub mod Cleared
pub mod Filled
