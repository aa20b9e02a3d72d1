pub mod Flags
pub mod Kept
pub mod Layout
pub mod Lent
