pub mod Checking
pub mod Functions
pub mod Sweep
