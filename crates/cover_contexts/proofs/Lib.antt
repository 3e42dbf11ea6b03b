pub mod Grows
pub mod Layouts
pub mod Context
