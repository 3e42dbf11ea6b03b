pub mod Low
pub mod Reached
