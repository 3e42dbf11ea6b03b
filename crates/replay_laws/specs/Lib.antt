pub mod Tallies
pub mod Turns
pub mod Places
pub mod Answers
pub mod Bound
pub mod Limits
