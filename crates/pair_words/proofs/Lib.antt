pub mod Figures
pub mod Joining
