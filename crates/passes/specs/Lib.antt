pub mod Passes
