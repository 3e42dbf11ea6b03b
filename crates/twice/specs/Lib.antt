pub mod Definitions
pub mod Cases
pub mod Answers
pub mod Maps
