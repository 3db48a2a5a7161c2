pub mod Counts
pub mod Lengths
pub mod Lines
