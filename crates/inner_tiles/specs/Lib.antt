pub mod Inner
pub mod Single
pub mod Instance
pub mod Views
pub mod K5
pub mod Places
