pub mod Uses
pub mod Marks
pub mod Places
pub mod Answers
pub mod Folds
pub mod Often
