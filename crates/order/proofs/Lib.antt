pub mod Figures
pub mod Listing
pub mod Searching
pub mod Turns
pub mod Writing
