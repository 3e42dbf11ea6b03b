pub mod Kerning
pub mod Laying
