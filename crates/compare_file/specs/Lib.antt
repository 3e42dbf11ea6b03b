pub mod CompareFile
