pub mod Reading
pub mod Writing
pub mod Signs
pub mod WritingSigned
pub mod Floor
