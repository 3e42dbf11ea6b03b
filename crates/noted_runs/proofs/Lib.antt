pub mod Rows
pub mod Spans
