pub mod Tests
pub mod Rounding
pub mod Finite
pub mod Order
pub mod Quotient
pub mod Search
