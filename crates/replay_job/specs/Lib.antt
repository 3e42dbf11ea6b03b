pub mod ReplayFile
