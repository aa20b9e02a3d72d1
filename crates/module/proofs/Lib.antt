pub mod Full
pub mod Naming
pub mod Order
pub mod Lengths
pub mod Counting
pub mod Kept
pub mod Sections
