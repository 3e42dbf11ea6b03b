pub mod Front
pub mod Made
pub mod Tail
