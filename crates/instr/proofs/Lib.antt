pub mod Ways
pub mod Folds
pub mod Forms
pub mod Heads
pub mod Known
pub mod Stretches
