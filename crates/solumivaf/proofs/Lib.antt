pub mod Moved
pub mod Decided
