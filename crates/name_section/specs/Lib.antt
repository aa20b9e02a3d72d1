pub mod Section
