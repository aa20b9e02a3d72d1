pub mod Interning
pub mod Ordering
pub mod Recalls
pub mod Registering
pub mod Surveying
