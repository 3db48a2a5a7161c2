pub mod Alike
pub mod MapSites
pub mod Sound
