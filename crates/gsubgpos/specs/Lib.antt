pub mod Marks
pub mod Members
