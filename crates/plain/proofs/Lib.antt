pub mod Turns
pub mod Plains
