pub mod Identifier
pub mod Kept
pub mod Keys
pub mod Numbering
