pub mod Pieces
pub mod Arms
