pub mod Shown
pub mod Counts
pub mod Endings
pub mod Sayings
pub mod Wholes
