pub mod NextBusy
pub mod Underway
