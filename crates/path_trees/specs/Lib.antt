pub mod Steps
pub mod StepLaws
pub mod Spots
pub mod Moves
pub mod Trees
pub mod Operations
pub mod Room
pub mod Merging
