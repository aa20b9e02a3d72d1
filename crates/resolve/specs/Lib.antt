pub mod Func
