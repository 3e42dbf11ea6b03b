pub mod Sums
pub mod Most
pub mod Tables
