pub mod Fitting
pub mod Placing
