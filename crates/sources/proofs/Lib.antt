pub mod Ways
pub mod Codes
