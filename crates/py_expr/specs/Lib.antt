pub mod Judged
pub mod Readers
