pub mod Roles
pub mod Levels
pub mod Primaries
pub mod Spots
pub mod Forms
pub mod Parts
pub mod Classes
pub mod Statements
