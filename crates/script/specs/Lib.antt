pub mod Runs
pub mod Grammar
pub mod Stream
pub mod Reading
