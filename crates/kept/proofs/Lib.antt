pub mod Tallies
pub mod Keeping
pub mod Emitting
