pub mod Sets
pub mod Sound
pub mod Dead
