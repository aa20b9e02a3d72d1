pub mod Holders
pub mod Tables
pub mod Walk
