pub mod Model
pub mod Folds
pub mod Loop
pub mod Exported
