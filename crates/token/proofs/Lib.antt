pub mod Ways
pub mod Runs
pub mod Parts
pub mod Idchars
pub mod Skips
pub mod Gets
pub mod Counts
