pub mod Shared
pub mod Book
