pub mod Once
pub mod Present
pub mod Mapped
pub mod Ranked
