pub mod Alike
pub mod Sheets
pub mod Unchanged
pub mod Written
