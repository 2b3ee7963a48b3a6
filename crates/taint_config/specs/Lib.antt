pub mod Kinds
pub mod Values
pub mod Faults
pub mod Config
pub mod Reading
pub mod Shapes
pub mod ErrorNames
