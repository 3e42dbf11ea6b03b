pub mod Stretches
pub mod Header
