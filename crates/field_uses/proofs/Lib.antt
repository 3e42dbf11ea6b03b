pub mod Using
