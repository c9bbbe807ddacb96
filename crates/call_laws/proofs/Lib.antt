pub mod Named
pub mod Undamaged
