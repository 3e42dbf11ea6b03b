pub mod Closing
pub mod Gathering
