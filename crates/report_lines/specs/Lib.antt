pub mod Text
pub mod Lengths
