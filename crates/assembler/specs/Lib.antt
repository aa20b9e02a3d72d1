pub mod Run
pub mod Export
