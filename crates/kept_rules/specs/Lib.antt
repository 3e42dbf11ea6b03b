pub mod Left
pub mod Good
