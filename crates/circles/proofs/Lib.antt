pub mod Figures
pub mod Following
pub mod Lists
pub mod Turns
