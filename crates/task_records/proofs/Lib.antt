pub mod Laws
pub mod Shelf
