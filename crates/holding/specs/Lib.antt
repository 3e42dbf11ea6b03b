pub mod Held
pub mod Fitting
