pub mod Glyphs
