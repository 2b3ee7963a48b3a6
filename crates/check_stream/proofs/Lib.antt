pub mod Edits
pub mod Steps
pub mod Rows
pub mod Reached
pub mod Turned
pub mod Ended
pub mod AtHand
pub mod Writing
