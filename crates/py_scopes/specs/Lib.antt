pub mod Facts
pub mod Names
pub mod Kept
pub mod Listed
pub mod Scopes
