pub mod Sections
pub mod Parts
pub mod Tally
pub mod Content
pub mod Emit
