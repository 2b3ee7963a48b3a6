pub mod Paths
pub mod Items
pub mod Callables
pub mod Limits
pub mod Files
pub mod Modules
pub mod Edits
pub mod Sums
