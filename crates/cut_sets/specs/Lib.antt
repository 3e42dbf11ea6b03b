pub mod Whole
pub mod KeptIs
pub mod Asked
pub mod PairTables
