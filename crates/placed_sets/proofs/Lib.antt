pub mod Placing
pub mod Settling
