pub mod Valleys
