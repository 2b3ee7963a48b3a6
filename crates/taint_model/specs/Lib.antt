pub mod Puts
pub mod Lists
pub mod Models
