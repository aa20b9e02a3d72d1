pub mod Area
pub mod Definers
pub mod Tables
