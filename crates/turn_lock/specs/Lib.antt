pub mod Turn
pub mod Stages
pub mod Seats
pub mod Locks
pub mod Rounds
