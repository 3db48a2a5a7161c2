pub mod Alike
pub mod Figures
pub mod Kept
pub mod Readers
