pub mod Exported
pub mod Whole
