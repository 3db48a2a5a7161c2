pub mod Figures
pub mod Judged
pub mod Runs
pub mod Unchanged
