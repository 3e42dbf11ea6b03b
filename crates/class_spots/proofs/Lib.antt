pub mod Settling
pub mod Halves
pub mod Noting
pub mod Gathering
pub mod Placing
