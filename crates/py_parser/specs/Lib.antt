pub mod Lists
pub mod Lines
pub mod Suites
pub mod Faults
pub mod Refusals
