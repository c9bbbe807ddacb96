pub mod Segments
pub mod Places
pub mod Tiles
