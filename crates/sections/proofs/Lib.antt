pub mod Tables
pub mod Items
pub mod Emitting
pub mod Fields
