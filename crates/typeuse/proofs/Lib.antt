pub mod Lists
pub mod Ways
pub mod Gets
