pub mod Place
pub mod Grammar
pub mod Number
pub mod Text
pub mod Escape
pub mod Formatted
