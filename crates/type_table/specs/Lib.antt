pub mod Hash
pub mod Known
pub mod Size
pub mod Table
pub mod Uses
