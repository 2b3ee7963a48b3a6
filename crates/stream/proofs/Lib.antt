pub mod Fronts
pub mod Nothing
pub mod Waits
pub mod Reached
pub mod Held
pub mod Rows
