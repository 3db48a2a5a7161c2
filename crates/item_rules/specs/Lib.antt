pub mod Figures
pub mod Rules
