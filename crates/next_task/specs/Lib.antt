pub mod NextTask
