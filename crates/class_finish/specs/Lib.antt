pub mod Table
pub mod Written
