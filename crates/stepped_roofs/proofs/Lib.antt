pub mod Figures
pub mod Uppers
