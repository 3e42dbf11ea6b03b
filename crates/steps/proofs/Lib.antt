pub mod Stepping
pub mod Sweeping
