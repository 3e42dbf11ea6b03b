pub mod Sets
pub mod Slots
pub mod Placing
pub mod SlotWalk
