pub mod Laws
pub mod Stored
pub mod Moved
