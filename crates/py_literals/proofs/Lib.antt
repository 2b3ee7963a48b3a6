pub mod Bodies
pub mod Digits
pub mod Floats
pub mod Longest
pub mod Places
pub mod Turns
pub mod Values
