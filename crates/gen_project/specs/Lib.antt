pub mod Draws
pub mod Fixed
pub mod Joined
pub mod Modules
pub mod Script
