pub mod Direct
pub mod Marking
pub mod Mapping
pub mod Putting
pub mod Ranks
