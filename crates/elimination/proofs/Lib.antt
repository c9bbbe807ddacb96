pub mod Eliminated
