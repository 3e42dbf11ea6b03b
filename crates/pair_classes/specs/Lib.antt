pub mod Sides
pub mod Cutting
