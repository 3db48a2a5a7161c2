pub mod Alike
pub mod Bounds
pub mod MapSites
pub mod Worked
