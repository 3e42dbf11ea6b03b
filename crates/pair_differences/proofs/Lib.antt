pub mod Merging
pub mod Glyphs
