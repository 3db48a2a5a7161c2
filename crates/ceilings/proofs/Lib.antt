pub mod Figures
pub mod Limits
