pub mod Near
pub mod Products
