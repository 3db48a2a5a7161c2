pub mod Lowers
pub mod Numbered
