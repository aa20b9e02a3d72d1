pub mod Pass
pub mod Export
