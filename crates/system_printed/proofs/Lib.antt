pub mod Checked
pub mod Printed
