pub mod Spots
pub mod Levels
pub mod Moves
pub mod Standing
pub mod Nesting
pub mod Subjects
pub mod Later
