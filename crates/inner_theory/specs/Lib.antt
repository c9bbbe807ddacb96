pub mod Setting
pub mod Stack
pub mod Columns
pub mod Sound
pub mod Theorem
pub mod Alike
pub mod Clean
