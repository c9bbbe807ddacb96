pub mod Fields
pub mod Bits
