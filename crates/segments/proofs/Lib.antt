pub mod Grounds
pub mod Shapes
pub mod Starts
