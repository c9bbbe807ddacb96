pub mod Turns
pub mod Shapes
