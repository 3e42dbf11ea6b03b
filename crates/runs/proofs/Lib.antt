pub mod Copying
pub mod Verdicts
