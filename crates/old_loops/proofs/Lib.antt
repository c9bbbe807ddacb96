pub mod Writers
pub mod Loops
