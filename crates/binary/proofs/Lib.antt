pub mod Putting
pub mod Emitting
pub mod Immediates
pub mod Parts
