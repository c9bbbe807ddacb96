pub mod Deeds
pub mod Demand
pub mod Numbered
pub mod Promise
