pub mod Elsewhere
pub mod From
pub mod Listed
