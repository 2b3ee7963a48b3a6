pub mod Lists
pub mod Keeps
pub mod Steps
pub mod Ends
pub mod Rounds
