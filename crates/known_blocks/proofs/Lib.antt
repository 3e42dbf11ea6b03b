pub mod Comparing
pub mod Seeking
pub mod Coming
pub mod Further
pub mod Settling
