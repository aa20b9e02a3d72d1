pub mod Blocks
pub mod Distinct
pub mod Entries
