pub mod Whole
pub mod Glyphs
