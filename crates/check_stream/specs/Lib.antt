pub mod Progress
pub mod Acts
pub mod Ends
pub mod Sends
pub mod Checks
pub mod Turns
