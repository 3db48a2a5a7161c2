pub mod Figures
pub mod Kept
pub mod Passed
