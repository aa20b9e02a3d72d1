pub mod Bodies
pub mod Declares
pub mod Fields
pub mod Handled
pub mod Room
pub mod Takes
