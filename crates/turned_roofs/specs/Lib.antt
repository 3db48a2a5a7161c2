pub mod Mirror
pub mod OtherEnd
pub mod Turned
