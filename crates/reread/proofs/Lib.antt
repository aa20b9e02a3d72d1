pub mod Gives
pub mod Heads
pub mod Gets
