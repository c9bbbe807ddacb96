pub mod Runs
pub mod Tested
