pub mod Rising
pub mod Columns
