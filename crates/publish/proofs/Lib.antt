pub mod Prefixes
pub mod Chains
pub mod Fronts
pub mod Seats
