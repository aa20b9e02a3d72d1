pub mod Places
pub mod Blocks
pub mod Stretches
pub mod Folds
pub mod Bodies
