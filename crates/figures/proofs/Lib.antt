pub mod Accepted
pub mod Counted
pub mod Laws
pub mod Numbers
pub mod Sides
pub mod Stores
pub mod Tests
