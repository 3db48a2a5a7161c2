pub mod Fraction
pub mod Limit
pub mod Load
pub mod Ramp
pub mod Up
