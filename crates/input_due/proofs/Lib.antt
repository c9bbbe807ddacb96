pub mod Fronts
pub mod Cuts
pub mod Decided
