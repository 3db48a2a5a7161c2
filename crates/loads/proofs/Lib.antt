pub mod Parts
pub mod Products
pub mod Widths
