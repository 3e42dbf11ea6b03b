pub mod Entry
