pub mod Playing
pub mod Refused
