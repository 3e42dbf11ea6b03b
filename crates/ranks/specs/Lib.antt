pub mod Ranks
pub mod Listed
