pub mod Bits
pub mod Reading
