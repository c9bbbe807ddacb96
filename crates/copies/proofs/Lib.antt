pub mod Steps
pub mod Long
pub mod Copied
pub mod All
pub mod One
