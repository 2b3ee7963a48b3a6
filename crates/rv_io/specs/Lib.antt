pub mod Answers
pub mod Counts
pub mod InMemory
pub mod Moves
