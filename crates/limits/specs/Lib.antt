pub mod Measured
pub mod EqualCovers
pub mod LongRules
pub mod Classes
pub mod Sources
pub mod Lent
pub mod Behind
pub mod Limits
