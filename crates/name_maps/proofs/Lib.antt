pub mod Maps
pub mod Locals
pub mod Walking
