pub mod Formats
pub mod Listing
pub mod Owning
