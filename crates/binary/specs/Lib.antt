pub mod Code
pub mod Emits
