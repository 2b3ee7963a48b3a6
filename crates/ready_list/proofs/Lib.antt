pub mod Relinked
pub mod Leads
pub mod Rings
pub mod Lists
pub mod Walks
