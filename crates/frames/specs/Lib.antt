pub mod Blocks
pub mod Locals
