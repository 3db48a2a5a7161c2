pub mod Figures
pub mod InTurn
