pub mod Siding
