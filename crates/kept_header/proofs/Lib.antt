pub mod Lessening
pub mod Finishing
pub mod Joining
