pub mod Apart
pub mod Answers
