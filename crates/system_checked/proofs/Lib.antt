pub mod Uniform
pub mod Headers
pub mod Held
pub mod Systems
