pub mod Answered
pub mod Apart
pub mod Coefficients
pub mod Figures
pub mod Roofs
pub mod Runs
pub mod Shapes
pub mod Stretches
