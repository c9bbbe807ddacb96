pub mod Column
pub mod Done
pub mod Groups
pub mod Updated
