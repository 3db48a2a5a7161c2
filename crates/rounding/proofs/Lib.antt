pub mod Distance
pub mod Rounding
pub mod Ramps
pub mod Limited
pub mod Tested
