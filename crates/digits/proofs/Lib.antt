pub mod Shifted
pub mod Table
