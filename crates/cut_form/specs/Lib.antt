pub mod Answers
pub mod Configuration
pub mod Declarations
pub mod Nests
pub mod Issues
pub mod Bodies
pub mod Reports
