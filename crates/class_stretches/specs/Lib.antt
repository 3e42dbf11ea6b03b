pub mod Tables
pub mod Stretches
