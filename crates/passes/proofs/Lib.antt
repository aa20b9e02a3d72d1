pub mod Bodies
pub mod Begin
pub mod Counted
pub mod Join
pub mod Stages
pub mod Whole
