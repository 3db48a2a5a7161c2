pub mod Find
pub mod MapSites
