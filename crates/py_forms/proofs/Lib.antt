pub mod Backward
pub mod Outward
pub mod Endings
