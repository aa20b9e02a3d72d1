pub mod Subsections
