pub mod Refused
pub mod Printed
pub mod Whole
