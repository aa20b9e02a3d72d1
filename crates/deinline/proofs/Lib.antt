pub mod Threes
pub mod Fields
pub mod Uses
