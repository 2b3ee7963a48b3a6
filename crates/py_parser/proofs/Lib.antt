pub mod Added
pub mod Lined
pub mod Inside
pub mod Verdicts
