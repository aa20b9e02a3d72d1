pub mod Declaring
pub mod Uses
