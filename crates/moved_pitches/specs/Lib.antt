pub mod Apart
pub mod Pitches
