pub mod Seeking
pub mod Forms
