pub mod Extends
pub mod Part
pub mod Stored
pub mod AtOnce
