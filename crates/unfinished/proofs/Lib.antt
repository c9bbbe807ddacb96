pub mod First
pub mod Finished
