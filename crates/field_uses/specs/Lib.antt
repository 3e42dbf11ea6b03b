pub mod Used
pub mod New
