pub mod Single
pub mod Says
