pub mod Sharing
pub mod Laying
