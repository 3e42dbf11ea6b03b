pub mod Met
pub mod Walks
