pub mod Cleared
pub mod Flags
pub mod Kept
