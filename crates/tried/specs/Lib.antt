pub mod Tries
pub mod Front
