pub mod Elements
pub mod Turns
pub mod Constants
pub mod Operands
pub mod Numbers
